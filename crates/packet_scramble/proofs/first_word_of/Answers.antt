use Rattle.std.proofs.Common.{arith}
use Rattle.packet_scramble.proofs.Words.{first_word_bytes}
use Rattle.packet_scramble.proofs.first_word_of.Goals as goal

pub returns : goal.returns
returns c = omega (arith, first_word_bytes c.args.sealed.now)
