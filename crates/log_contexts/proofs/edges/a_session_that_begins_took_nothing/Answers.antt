use Rattle.std.proofs.Common.{refl}
use Rattle.rtmfp_base.proofs.Maps.{get_inserted}
use Rattle.crypto_profile.specs.Window.{recents}
use Rattle.log_contexts.specs.Changes.{begun_in}
use Rattle.log_contexts.proofs.edges.a_session_that_begins_took_nothing.Goals as goal

pub returns-clause-again : goal.returns-clause-again
unfolding recents
returns-clause-again c = refl

pub returns-clause-used : goal.returns-clause-used
unfolding recents
returns-clause-used c = refl

pub returns-clause-zero : goal.returns-clause-zero
unfolding recents
returns-clause-zero c = refl

pub returns-clause-anew : goal.returns-clause-anew
returns-clause-anew c = λ kept. get_inserted kept.sessions 3 (begun_in 4)
