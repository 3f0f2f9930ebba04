use Rattle.log_packets.proofs.OpenedReads.{among_keyings}
use Rattle.log_packets.proofs.laws.keyings_are_among_its_chunks.Goals as goal

pub returns : goal.returns
returns c = among_keyings
