use Rattle.std.proofs.Common.{refl}
use Rattle.audit_text.proofs.Computed.{inside, beyond, reading}
use Rattle.audit_text.proofs.edges.each_reason_has_its_name.Goals as goal

pub returns-clause-is_cancelled : goal.returns-clause-is_cancelled
unfolding reading
returns-clause-is_cancelled c = inside _ _ refl

pub returns-clause-no_cancelled : goal.returns-clause-no_cancelled
unfolding reading
returns-clause-no_cancelled c = beyond _ refl

pub returns-clause-is_expired : goal.returns-clause-is_expired
unfolding reading
returns-clause-is_expired c = inside _ _ refl

pub returns-clause-no_expired : goal.returns-clause-no_expired
unfolding reading
returns-clause-no_expired c = beyond _ refl

pub returns-clause-is_glare : goal.returns-clause-is_glare
unfolding reading
returns-clause-is_glare c = inside _ _ refl

pub returns-clause-no_glare : goal.returns-clause-no_glare
unfolding reading
returns-clause-no_glare c = beyond _ refl

pub returns-clause-is_override : goal.returns-clause-is_override
unfolding reading
returns-clause-is_override c = inside _ _ refl

pub returns-clause-no_override : goal.returns-clause-no_override
unfolding reading
returns-clause-no_override c = beyond _ refl

pub returns-clause-is_unconfirmed : goal.returns-clause-is_unconfirmed
unfolding reading
returns-clause-is_unconfirmed c = inside _ _ refl

pub returns-clause-no_unconfirmed : goal.returns-clause-no_unconfirmed
unfolding reading
returns-clause-no_unconfirmed c = beyond _ refl

pub returns-clause-is_near : goal.returns-clause-is_near
unfolding reading
returns-clause-is_near c = inside _ _ refl

pub returns-clause-no_near : goal.returns-clause-no_near
unfolding reading
returns-clause-no_near c = beyond _ refl

pub returns-clause-is_far : goal.returns-clause-is_far
unfolding reading
returns-clause-is_far c = inside _ _ refl

pub returns-clause-no_far : goal.returns-clause-no_far
unfolding reading
returns-clause-no_far c = beyond _ refl

pub returns-clause-is_idle : goal.returns-clause-is_idle
unfolding reading
returns-clause-is_idle c = inside _ _ refl

pub returns-clause-no_idle : goal.returns-clause-no_idle
unfolding reading
returns-clause-no_idle c = beyond _ refl
