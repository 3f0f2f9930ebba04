use Rattle.endpoint_laws.proofs.AgreedLogs.{each_end_states_its_log, each_prefix_is_a_moment, logs_keep_the_same}
use Rattle.endpoint_laws.proofs.laws.agreed_logs.Goals as goal

pub returns-clause-stated : goal.returns-clause-stated
returns-clause-stated c = each_end_states_its_log

pub returns-clause-moments : goal.returns-clause-moments
returns-clause-moments c = each_prefix_is_a_moment

pub returns-clause-kept : goal.returns-clause-kept
returns-clause-kept c = logs_keep_the_same
