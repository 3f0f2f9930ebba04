use Rattle.endpoint_checks.proofs.Stopping.{stops_tell_their_chunks}
use Rattle.endpoint_checks.proofs.stops_tell.Goals as goal

pub returns : goal.returns
returns c = stops_tell_their_chunks
