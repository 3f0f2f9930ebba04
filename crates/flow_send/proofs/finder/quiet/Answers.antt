use Rattle.std.proofs.Common.{◌%◌, ◌/◌, arith}
use Rattle.flow_send.proofs.Finding.{quiet_bits}
use Rattle.flow_send.proofs.finder.quiet.Goals as goal

pub returns-clause-quiet : goal.returns-clause-quiet
returns-clause-quiet c = λ b lo hi. quiet_bits c.args.words.now c.args.block b (c.fits-words (c.args.block / 64 % 34)) lo (omega (arith, hi, c.min.ensures))
