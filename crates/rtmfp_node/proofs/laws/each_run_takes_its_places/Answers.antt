use Rattle.rtmfp_node.proofs.Taken.{each_run_takes_its_places}
use Rattle.rtmfp_node.proofs.laws.each_run_takes_its_places.Goals as goal

pub returns : goal.returns
returns c = each_run_takes_its_places
