use Rattle.std.proofs.Common.{refl}
use Rattle.audit_text.proofs.Computed.{beyond, reading}
use Rattle.audit_text.proofs.edges.other_words_are_no_calls.Goals as goal

pub returns-clause-opens : goal.returns-clause-opens
unfolding reading
returns-clause-opens c = beyond _ refl

pub returns-clause-seek : goal.returns-clause-seek
unfolding reading
returns-clause-seek c = beyond _ refl

pub returns-clause-cancel : goal.returns-clause-cancel
unfolding reading
returns-clause-cancel c = beyond _ refl

pub returns-clause-unseek : goal.returns-clause-unseek
unfolding reading
returns-clause-unseek c = beyond _ refl

pub returns-clause-close : goal.returns-clause-close
unfolding reading
returns-clause-close c = beyond _ refl

pub returns-clause-learn : goal.returns-clause-learn
unfolding reading
returns-clause-learn c = beyond _ refl

pub returns-clause-advance : goal.returns-clause-advance
unfolding reading
returns-clause-advance c = beyond _ refl

pub returns-clause-receive : goal.returns-clause-receive
unfolding reading
returns-clause-receive c = beyond _ refl

pub returns-clause-tick : goal.returns-clause-tick
unfolding reading
returns-clause-tick c = beyond _ refl

pub returns-clause-other : goal.returns-clause-other
unfolding reading
returns-clause-other c = beyond _ refl

pub returns-clause-capital : goal.returns-clause-capital
unfolding reading
returns-clause-capital c = beyond _ refl
