use Rattle.glare_core.proofs.PerEnd.{view_is_log, lawful_by_ends}
use Rattle.glare_core.proofs.checks.lawful_end_by_end.Goals as goal

pub returns-clause-logs : goal.returns-clause-logs
returns-clause-logs c = view_is_log

pub returns-clause-lawful : goal.returns-clause-lawful
returns-clause-lawful c = lawful_by_ends
