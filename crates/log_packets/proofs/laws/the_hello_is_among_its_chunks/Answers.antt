use Rattle.log_packets.proofs.OpenedReads.{among_answering}
use Rattle.log_packets.proofs.laws.the_hello_is_among_its_chunks.Goals as goal

pub returns : goal.returns
returns c = among_answering
