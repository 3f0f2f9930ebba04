use Rattle.std.proofs.Common.{refl}
use Rattle.audit_text.proofs.Computed.{inside, beyond, reading}
use Rattle.audit_text.proofs.edges.names_and_moments_have_their_limits.Goals as goal

pub returns-clause-first : goal.returns-clause-first
unfolding reading
returns-clause-first c = inside _ _ refl

pub returns-clause-digit : goal.returns-clause-digit
unfolding reading
returns-clause-digit c = inside _ _ refl

pub returns-clause-last : goal.returns-clause-last
unfolding reading
returns-clause-last c = inside _ _ refl

pub returns-clause-longest : goal.returns-clause-longest
unfolding reading
returns-clause-longest c = inside _ _ refl

pub returns-clause-longer : goal.returns-clause-longer
unfolding reading
returns-clause-longer c = beyond _ refl

pub returns-clause-none : goal.returns-clause-none
unfolding reading
returns-clause-none c = beyond _ refl

pub returns-clause-capital : goal.returns-clause-capital
unfolding reading
returns-clause-capital c = beyond _ refl

pub returns-clause-hyphen : goal.returns-clause-hyphen
unfolding reading
returns-clause-hyphen c = beyond _ refl

pub returns-clause-most : goal.returns-clause-most
unfolding reading
returns-clause-most c = inside _ _ refl

pub returns-clause-more : goal.returns-clause-more
unfolding reading
returns-clause-more c = beyond _ refl

pub returns-clause-zero_in_front : goal.returns-clause-zero_in_front
unfolding reading
returns-clause-zero_in_front c = beyond _ refl

pub returns-clause-sign : goal.returns-clause-sign
unfolding reading
returns-clause-sign c = beyond _ refl

pub returns-clause-no_moment : goal.returns-clause-no_moment
unfolding reading
returns-clause-no_moment c = beyond _ refl

pub returns-clause-word : goal.returns-clause-word
unfolding reading
returns-clause-word c = beyond _ refl
