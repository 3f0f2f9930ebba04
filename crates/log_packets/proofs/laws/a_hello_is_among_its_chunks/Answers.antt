use Rattle.log_packets.proofs.OpenedReads.{among_hellos}
use Rattle.log_packets.proofs.laws.a_hello_is_among_its_chunks.Goals as goal

pub returns : goal.returns
returns c = among_hellos
