use Rattle.std.proofs.Common.{refl}
use Rattle.audit_text.proofs.Computed.{inside, beyond, reading}
use Rattle.audit_text.proofs.edges.a_log_has_its_head.Goals as goal

pub returns-clause-first : goal.returns-clause-first
unfolding reading
returns-clause-first c = inside _ _ refl

pub returns-clause-zeros : goal.returns-clause-zeros
unfolding reading
returns-clause-zeros c = inside _ _ refl

pub returns-clause-most : goal.returns-clause-most
unfolding reading
returns-clause-most c = inside _ _ refl

pub returns-clause-peers : goal.returns-clause-peers
unfolding reading
returns-clause-peers c = beyond _ refl

pub returns-clause-sessions : goal.returns-clause-sessions
unfolding reading
returns-clause-sessions c = beyond _ refl

pub returns-clause-generation : goal.returns-clause-generation
unfolding reading
returns-clause-generation c = beyond _ refl

pub returns-clause-short_cert : goal.returns-clause-short_cert
unfolding reading
returns-clause-short_cert c = beyond _ refl

pub returns-clause-long_cert : goal.returns-clause-long_cert
unfolding reading
returns-clause-long_cert c = inside _ _ refl

pub returns-clause-longer_cert : goal.returns-clause-longer_cert
unfolding reading
returns-clause-longer_cert c = beyond _ refl

pub returns-clause-instance : goal.returns-clause-instance
unfolding reading
returns-clause-instance c = inside _ _ refl

pub returns-clause-not_ascii : goal.returns-clause-not_ascii
unfolding reading
returns-clause-not_ascii c = beyond _ refl

pub returns-clause-no_cert : goal.returns-clause-no_cert
unfolding reading
returns-clause-no_cert c = beyond _ refl

pub returns-clause-word : goal.returns-clause-word
unfolding reading
returns-clause-word c = beyond _ refl
