use Rattle.std.proofs.Common.{refl}
use Rattle.audit_text.proofs.Computed.{inside, beyond, reading}
use Rattle.audit_text.proofs.edges.digits_are_counted.Goals as goal

pub returns-clause-short_nonce : goal.returns-clause-short_nonce
unfolding reading
returns-clause-short_nonce c = beyond _ refl

pub returns-clause-less_nonce : goal.returns-clause-less_nonce
unfolding reading
returns-clause-less_nonce c = beyond _ refl

pub returns-clause-more_nonce : goal.returns-clause-more_nonce
unfolding reading
returns-clause-more_nonce c = beyond _ refl

pub returns-clause-lower : goal.returns-clause-lower
unfolding reading
returns-clause-lower c = inside _ _ refl

pub returns-clause-capital : goal.returns-clause-capital
unfolding reading
returns-clause-capital c = beyond _ refl

pub returns-clause-beyond : goal.returns-clause-beyond
unfolding reading
returns-clause-beyond c = beyond _ refl

pub returns-clause-less_print : goal.returns-clause-less_print
unfolding reading
returns-clause-less_print c = beyond _ refl

pub returns-clause-more_print : goal.returns-clause-more_print
unfolding reading
returns-clause-more_print c = beyond _ refl

pub returns-clause-less_tag : goal.returns-clause-less_tag
unfolding reading
returns-clause-less_tag c = beyond _ refl

pub returns-clause-more_tag : goal.returns-clause-more_tag
unfolding reading
returns-clause-more_tag c = beyond _ refl

pub returns-clause-less_secret : goal.returns-clause-less_secret
unfolding reading
returns-clause-less_secret c = beyond _ refl

pub returns-clause-more_secret : goal.returns-clause-more_secret
unfolding reading
returns-clause-more_secret c = beyond _ refl

pub returns-clause-odd : goal.returns-clause-odd
unfolding reading
returns-clause-odd c = beyond _ refl

pub returns-clause-capital_bytes : goal.returns-clause-capital_bytes
unfolding reading
returns-clause-capital_bytes c = beyond _ refl

pub returns-clause-no_bytes : goal.returns-clause-no_bytes
unfolding reading
returns-clause-no_bytes c = beyond _ refl
