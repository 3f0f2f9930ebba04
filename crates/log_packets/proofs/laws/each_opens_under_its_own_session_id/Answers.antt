use Rattle.log_packets.proofs.OpenedReads.{opens_under_its_own}
use Rattle.log_packets.proofs.laws.each_opens_under_its_own_session_id.Goals as goal

pub returns : goal.returns
returns c = opens_under_its_own
