use Rattle.packet_scramble.specs.Datagram.{first_word, second_word}
use Rattle.packet_scramble.proofs.Scrambling.{xor_both_twice}
use Rattle.packet_scramble.proofs.laws.unscrambling_undoes_scrambling.Goals as goal

pub returns : goal.returns
returns c sid part = xor_both_twice sid (first_word part) (second_word part)
