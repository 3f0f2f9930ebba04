use Rattle.std.proofs.Common.{arith}
use Rattle.session_table.proofs.SealedParts.{piece_fits}
use Rattle.session_table.proofs.sealing.fragment.Goals as goal

pub returns-clause-short : goal.returns-clause-short
returns-clause-short c = piece_fits c.args.more c.args.id c.args.number c.args.bytes.now (omega (arith, c.ranges.id)) (omega (arith, c.ranges.number)) c.requires
