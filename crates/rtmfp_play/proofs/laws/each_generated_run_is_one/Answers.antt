use Rattle.rtmfp_play.proofs.OneGenerated.{each_generated_run_is_one}
use Rattle.rtmfp_play.proofs.laws.each_generated_run_is_one.Goals as goal

pub returns : goal.returns
returns c = each_generated_run_is_one
