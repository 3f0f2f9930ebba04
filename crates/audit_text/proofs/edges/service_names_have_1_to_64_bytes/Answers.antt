use Rattle.std.proofs.Common.{refl}
use Rattle.audit_text.proofs.Computed.{inside, beyond, reading}
use Rattle.audit_text.proofs.edges.service_names_have_1_to_64_bytes.Goals as goal

pub returns-clause-shortest : goal.returns-clause-shortest
unfolding reading
returns-clause-shortest c = inside _ _ refl

pub returns-clause-longest : goal.returns-clause-longest
unfolding reading
returns-clause-longest c = inside _ _ refl

pub returns-clause-longer : goal.returns-clause-longer
unfolding reading
returns-clause-longer c = beyond _ refl

pub returns-clause-none : goal.returns-clause-none
unfolding reading
returns-clause-none c = beyond _ refl

pub returns-clause-not_ascii : goal.returns-clause-not_ascii
unfolding reading
returns-clause-not_ascii c = beyond _ refl

pub returns-clause-seeks_none : goal.returns-clause-seeks_none
unfolding reading
returns-clause-seeks_none c = beyond _ refl

pub returns-clause-seeks_longest : goal.returns-clause-seeks_longest
unfolding reading
returns-clause-seeks_longest c = inside _ _ refl

pub returns-clause-seeks_no_more : goal.returns-clause-seeks_no_more
unfolding reading
returns-clause-seeks_no_more c = beyond _ refl
