use Rattle.std.proofs.Common.{arith}
use Rattle.rtmfp_lines.proofs.LfLaws.{found_line, found_long, found_none, no_lf-take}
use Rattle.rtmfp_lines.proofs.lines.find_line.Goals as goal

pub returns-in-Some : goal.returns-in-Some
returns-in-Some c = found_line c.args.limit c.args.scanned c.in-Some.i c.args.bytes.now c.requires.none c.in-Some.ensures c.if-scanned-i.true c.requires.within

pub returns-in-None : goal.returns-in-None
returns-in-None c = (omega arith, found_none c.args.scanned c.args.bytes.now c.requires.none c.in-None.ensures)

pub returns-in_default : goal.returns-in_default
returns-in_default c = found_long c.args.limit c.args.scanned c.in-Some.i c.args.bytes.now c.requires.none c.in-Some.ensures (omega arith) c.requires.within

pub returns-in_default-2 : goal.returns-in_default-2
returns-in_default-2 c = (omega arith, no_lf-take _ c.args.bytes.now (found_none c.args.scanned c.args.bytes.now c.requires.none c.in-None.ensures))
