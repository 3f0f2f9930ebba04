use Rattle.std.proofs.Common.{refl}
use Rattle.log_packets.specs.Edges.{long}
use Rattle.log_packets.specs.Opening.{sid_in}
use Rattle.log_packets.proofs.Opens.{no_some}
use Rattle.log_packets.proofs.OpenedReads.{opens_under_its_own}
use Rattle.log_packets.proofs.edges.a_datagram_of_35_bytes_opens_nowhere.Goals as goal

pub returns-clause-nowhere : goal.returns-clause-nowhere
returns-clause-nowhere c = λ secrets context sid plain opens. no_some (sid_in (long 35)) sid refl (opens_under_its_own secrets context sid (long 35) plain opens)
