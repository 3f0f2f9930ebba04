use Rattle.std.proofs.Common.{rules}
use Rattle.startup.proofs.edges.a_change_of_a_cookie_counts_as_a_sending.Goals as goal

pub returns-clause-changed : goal.returns-clause-changed
returns-clause-changed c = search rules

pub returns-clause-before : goal.returns-clause-before
returns-clause-before c = search rules

pub returns-clause-again : goal.returns-clause-again
returns-clause-again c = search rules
