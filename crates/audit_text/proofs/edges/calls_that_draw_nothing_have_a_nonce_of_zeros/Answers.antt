use Rattle.std.proofs.Common.{refl}
use Rattle.audit_text.proofs.Computed.{inside, beyond, reading}
use Rattle.audit_text.proofs.edges.calls_that_draw_nothing_have_a_nonce_of_zeros.Goals as goal

pub returns-clause-cancels : goal.returns-clause-cancels
unfolding reading
returns-clause-cancels c = beyond _ refl

pub returns-clause-unseeks : goal.returns-clause-unseeks
unfolding reading
returns-clause-unseeks c = beyond _ refl

pub returns-clause-closes : goal.returns-clause-closes
unfolding reading
returns-clause-closes c = beyond _ refl

pub returns-clause-learns : goal.returns-clause-learns
unfolding reading
returns-clause-learns c = beyond _ refl

pub returns-clause-advances : goal.returns-clause-advances
unfolding reading
returns-clause-advances c = beyond _ refl

pub returns-clause-others : goal.returns-clause-others
unfolding reading
returns-clause-others c = beyond _ refl

pub returns-clause-opens : goal.returns-clause-opens
unfolding reading
returns-clause-opens c = inside _ _ refl

pub returns-clause-seeks : goal.returns-clause-seeks
unfolding reading
returns-clause-seeks c = inside _ _ refl

pub returns-clause-receives : goal.returns-clause-receives
unfolding reading
returns-clause-receives c = inside _ _ refl

pub returns-clause-ticks : goal.returns-clause-ticks
unfolding reading
returns-clause-ticks c = inside _ _ refl
