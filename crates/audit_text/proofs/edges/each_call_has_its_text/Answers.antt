use Rattle.std.proofs.Common.{refl}
use Rattle.audit_text.proofs.Computed.{inside, reading}
use Rattle.audit_text.proofs.edges.each_call_has_its_text.Goals as goal

pub returns-clause-opens : goal.returns-clause-opens
unfolding reading
returns-clause-opens c = inside _ _ refl

pub returns-clause-seeks : goal.returns-clause-seeks
unfolding reading
returns-clause-seeks c = inside _ _ refl

pub returns-clause-cancels : goal.returns-clause-cancels
unfolding reading
returns-clause-cancels c = inside _ _ refl

pub returns-clause-unseeks : goal.returns-clause-unseeks
unfolding reading
returns-clause-unseeks c = inside _ _ refl

pub returns-clause-closes : goal.returns-clause-closes
unfolding reading
returns-clause-closes c = inside _ _ refl

pub returns-clause-learns : goal.returns-clause-learns
unfolding reading
returns-clause-learns c = inside _ _ refl

pub returns-clause-advances : goal.returns-clause-advances
unfolding reading
returns-clause-advances c = inside _ _ refl

pub returns-clause-receives : goal.returns-clause-receives
unfolding reading
returns-clause-receives c = inside _ _ refl

pub returns-clause-receives_nothing : goal.returns-clause-receives_nothing
unfolding reading
returns-clause-receives_nothing c = inside _ _ refl

pub returns-clause-ticks : goal.returns-clause-ticks
unfolding reading
returns-clause-ticks c = inside _ _ refl

pub returns-clause-others : goal.returns-clause-others
unfolding reading
returns-clause-others c = inside _ _ refl
