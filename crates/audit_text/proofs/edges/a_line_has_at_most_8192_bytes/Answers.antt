use Rattle.std.proofs.Common.{refl}
use Rattle.audit_text.proofs.Computed.{inside, beyond, reading}
use Rattle.audit_text.proofs.edges.a_line_has_at_most_8192_bytes.Goals as goal

pub returns-clause-skipped : goal.returns-clause-skipped
unfolding reading
returns-clause-skipped c = inside _ _ refl

pub returns-clause-comment : goal.returns-clause-comment
unfolding reading
returns-clause-comment c = inside _ _ refl

pub returns-clause-longest_skipped : goal.returns-clause-longest_skipped
unfolding reading
returns-clause-longest_skipped c = inside _ _ refl

pub returns-clause-longer_skipped : goal.returns-clause-longer_skipped
unfolding reading
returns-clause-longer_skipped c = beyond _ refl

pub returns-clause-longest : goal.returns-clause-longest
unfolding reading
returns-clause-longest c = inside _ _ refl

pub returns-clause-longer : goal.returns-clause-longer
unfolding reading
returns-clause-longer c = beyond _ refl

pub returns-clause-none : goal.returns-clause-none
unfolding reading
returns-clause-none c = beyond _ refl

pub returns-clause-space_in_front : goal.returns-clause-space_in_front
unfolding reading
returns-clause-space_in_front c = beyond _ refl

pub returns-clause-plus_alone : goal.returns-clause-plus_alone
unfolding reading
returns-clause-plus_alone c = beyond _ refl

pub returns-clause-no_entry : goal.returns-clause-no_entry
unfolding reading
returns-clause-no_entry c = beyond _ refl

pub returns-clause-two_spaces : goal.returns-clause-two_spaces
unfolding reading
returns-clause-two_spaces c = beyond _ refl

pub returns-clause-space_behind : goal.returns-clause-space_behind
unfolding reading
returns-clause-space_behind c = beyond _ refl

pub returns-clause-line_feed : goal.returns-clause-line_feed
unfolding reading
returns-clause-line_feed c = beyond _ refl

pub returns-clause-more_words : goal.returns-clause-more_words
unfolding reading
returns-clause-more_words c = beyond _ refl

pub returns-clause-no_plus : goal.returns-clause-no_plus
unfolding reading
returns-clause-no_plus c = beyond _ refl
