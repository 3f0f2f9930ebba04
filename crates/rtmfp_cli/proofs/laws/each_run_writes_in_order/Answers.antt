use Rattle.rtmfp_cli.proofs.InOrder.{each_run_writes_in_order}
use Rattle.rtmfp_cli.proofs.laws.each_run_writes_in_order.Goals as goal

pub returns : goal.returns
returns c = each_run_writes_in_order
