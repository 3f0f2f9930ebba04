use Rattle.std.proofs.Common.{arith}
use Rattle.packet_scramble.proofs.Words.{second_word_bytes}
use Rattle.packet_scramble.proofs.second_word_of.Goals as goal

pub returns : goal.returns
returns c = omega (arith, second_word_bytes c.args.sealed.now)
