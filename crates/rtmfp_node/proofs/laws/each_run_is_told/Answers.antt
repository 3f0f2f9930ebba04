use Rattle.rtmfp_node.proofs.Taken.{each_done_run_is_whole, each_other_run_is_cut}
use Rattle.rtmfp_node.proofs.laws.each_run_is_told.Goals as goal

pub returns-clause-done : goal.returns-clause-done
returns-clause-done c = each_done_run_is_whole

pub returns-clause-cut : goal.returns-clause-cut
returns-clause-cut c = each_other_run_is_cut
