use Rattle.log_values.proofs.Ordered.{each_end_has_its_log}
use Rattle.log_values.proofs.laws.each_end_has_its_log.Goals as goal

pub returns : goal.returns
returns c = each_end_has_its_log
