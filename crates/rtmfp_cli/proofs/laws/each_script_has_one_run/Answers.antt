use Rattle.rtmfp_cli.proofs.OneRun.{each_script_has_one_run}
use Rattle.rtmfp_cli.proofs.laws.each_script_has_one_run.Goals as goal

pub returns : goal.returns
returns c = each_script_has_one_run
