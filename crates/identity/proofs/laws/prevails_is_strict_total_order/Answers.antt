use Rattle.identity.proofs.Above.{not_above_itself, above_along, one_above, never_both}
use Rattle.identity.proofs.laws.prevails_is_strict_total_order.Goals as goal

pub returns-clause-never_over_itself : goal.returns-clause-never_over_itself
returns-clause-never_over_itself c = not_above_itself

pub returns-clause-transitive : goal.returns-clause-transitive
returns-clause-transitive c = above_along

pub returns-clause-one_of_two : goal.returns-clause-one_of_two
returns-clause-one_of_two c = one_above

pub returns-clause-not_both : goal.returns-clause-not_both
returns-clause-not_both c = never_both
