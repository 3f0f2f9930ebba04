use Rattle.rtmfp_cli.proofs.Flat.{each_run_is_flat}
use Rattle.rtmfp_cli.proofs.laws.each_run_is_flat.Goals as goal

pub returns : goal.returns
returns c = each_run_is_flat
