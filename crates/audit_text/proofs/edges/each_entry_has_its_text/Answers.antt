use Rattle.std.proofs.Common.{refl}
use Rattle.audit_text.proofs.Computed.{inside, reading}
use Rattle.audit_text.proofs.edges.each_entry_has_its_text.Goals as goal

pub returns-clause-started : goal.returns-clause-started
unfolding reading
returns-clause-started c = inside _ _ refl

pub returns-clause-born : goal.returns-clause-born
unfolding reading
returns-clause-born c = inside _ _ refl

pub returns-clause-opened : goal.returns-clause-opened
unfolding reading
returns-clause-opened c = inside _ _ refl

pub returns-clause-confirmed : goal.returns-clause-confirmed
unfolding reading
returns-clause-confirmed c = inside _ _ refl

pub returns-clause-ended : goal.returns-clause-ended
unfolding reading
returns-clause-ended c = inside _ _ refl

pub returns-clause-closed : goal.returns-clause-closed
unfolding reading
returns-clause-closed c = inside _ _ refl

pub returns-clause-sought : goal.returns-clause-sought
unfolding reading
returns-clause-sought c = inside _ _ refl

pub returns-clause-unsought : goal.returns-clause-unsought
unfolding reading
returns-clause-unsought c = inside _ _ refl

pub returns-clause-learnt : goal.returns-clause-learnt
unfolding reading
returns-clause-learnt c = inside _ _ refl

pub returns-clause-advanced : goal.returns-clause-advanced
unfolding reading
returns-clause-advanced c = inside _ _ refl

pub returns-clause-startup : goal.returns-clause-startup
unfolding reading
returns-clause-startup c = inside _ _ refl

pub returns-clause-empty : goal.returns-clause-empty
unfolding reading
returns-clause-empty c = inside _ _ refl

pub returns-clause-session : goal.returns-clause-session
unfolding reading
returns-clause-session c = inside _ _ refl

pub returns-clause-back : goal.returns-clause-back
unfolding reading
returns-clause-back c = inside _ _ refl
