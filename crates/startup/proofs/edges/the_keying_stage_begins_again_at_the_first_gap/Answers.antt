use Rattle.std.proofs.Common.{rules}
use Rattle.startup.proofs.edges.the_keying_stage_begins_again_at_the_first_gap.Goals as goal

pub returns-clause-answered : goal.returns-clause-answered
returns-clause-answered c = search rules

pub returns-clause-before : goal.returns-clause-before
returns-clause-before c = search rules

pub returns-clause-again : goal.returns-clause-again
returns-clause-again c = search rules
