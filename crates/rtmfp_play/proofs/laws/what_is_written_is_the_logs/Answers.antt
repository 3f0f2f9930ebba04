use Rattle.rtmfp_play.proofs.LogsTold.{what_is_written_is_the_logs}
use Rattle.rtmfp_play.proofs.laws.what_is_written_is_the_logs.Goals as goal

pub returns : goal.returns
returns c = what_is_written_is_the_logs
