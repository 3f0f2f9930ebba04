use Rattle.std.proofs.Common.{refl}
use Rattle.audit_text.proofs.Computed.{beyond, reading}
use Rattle.audit_text.proofs.edges.other_words_are_no_entries.Goals as goal

pub returns-clause-started : goal.returns-clause-started
unfolding reading
returns-clause-started c = beyond _ refl

pub returns-clause-born : goal.returns-clause-born
unfolding reading
returns-clause-born c = beyond _ refl

pub returns-clause-opened : goal.returns-clause-opened
unfolding reading
returns-clause-opened c = beyond _ refl

pub returns-clause-confirmed : goal.returns-clause-confirmed
unfolding reading
returns-clause-confirmed c = beyond _ refl

pub returns-clause-ended : goal.returns-clause-ended
unfolding reading
returns-clause-ended c = beyond _ refl

pub returns-clause-closed : goal.returns-clause-closed
unfolding reading
returns-clause-closed c = beyond _ refl

pub returns-clause-sought : goal.returns-clause-sought
unfolding reading
returns-clause-sought c = beyond _ refl

pub returns-clause-unsought : goal.returns-clause-unsought
unfolding reading
returns-clause-unsought c = beyond _ refl

pub returns-clause-learnt : goal.returns-clause-learnt
unfolding reading
returns-clause-learnt c = beyond _ refl

pub returns-clause-advanced : goal.returns-clause-advanced
unfolding reading
returns-clause-advanced c = beyond _ refl

pub returns-clause-out : goal.returns-clause-out
unfolding reading
returns-clause-out c = beyond _ refl

pub returns-clause-startup : goal.returns-clause-startup
unfolding reading
returns-clause-startup c = beyond _ refl

pub returns-clause-session : goal.returns-clause-session
unfolding reading
returns-clause-session c = beyond _ refl

pub returns-clause-sender : goal.returns-clause-sender
unfolding reading
returns-clause-sender c = beyond _ refl
