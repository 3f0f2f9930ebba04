use Rattle.std.proofs.Common.{refl}
use Rattle.audit_text.proofs.Computed.{inside, beyond, reading}
use Rattle.audit_text.proofs.edges.numbers_of_calls_and_entries_have_their_limits.Goals as goal

pub returns-clause-cancels : goal.returns-clause-cancels
unfolding reading
returns-clause-cancels c = inside _ _ refl

pub returns-clause-cancels_no_more : goal.returns-clause-cancels_no_more
unfolding reading
returns-clause-cancels_no_more c = beyond _ refl

pub returns-clause-closes : goal.returns-clause-closes
unfolding reading
returns-clause-closes c = inside _ _ refl

pub returns-clause-closes_no_more : goal.returns-clause-closes_no_more
unfolding reading
returns-clause-closes_no_more c = beyond _ refl

pub returns-clause-unseeks : goal.returns-clause-unseeks
unfolding reading
returns-clause-unseeks c = inside _ _ refl

pub returns-clause-unseeks_no_more : goal.returns-clause-unseeks_no_more
unfolding reading
returns-clause-unseeks_no_more c = beyond _ refl

pub returns-clause-zero_in_front : goal.returns-clause-zero_in_front
unfolding reading
returns-clause-zero_in_front c = beyond _ refl

pub returns-clause-learnt : goal.returns-clause-learnt
unfolding reading
returns-clause-learnt c = inside _ _ refl

pub returns-clause-learnt_no_more : goal.returns-clause-learnt_no_more
unfolding reading
returns-clause-learnt_no_more c = beyond _ refl

pub returns-clause-advanced : goal.returns-clause-advanced
unfolding reading
returns-clause-advanced c = inside _ _ refl

pub returns-clause-advanced_no_more : goal.returns-clause-advanced_no_more
unfolding reading
returns-clause-advanced_no_more c = beyond _ refl

pub returns-clause-closed : goal.returns-clause-closed
unfolding reading
returns-clause-closed c = inside _ _ refl

pub returns-clause-closed_no_more : goal.returns-clause-closed_no_more
unfolding reading
returns-clause-closed_no_more c = beyond _ refl

pub returns-clause-startup : goal.returns-clause-startup
unfolding reading
returns-clause-startup c = inside _ _ refl

pub returns-clause-startup_no_more : goal.returns-clause-startup_no_more
unfolding reading
returns-clause-startup_no_more c = beyond _ refl
