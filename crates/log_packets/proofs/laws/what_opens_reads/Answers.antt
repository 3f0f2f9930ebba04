use Rattle.log_packets.proofs.OpenedReads.{opened_reads}
use Rattle.log_packets.proofs.laws.what_opens_reads.Goals as goal

pub returns : goal.returns
returns c = opened_reads
