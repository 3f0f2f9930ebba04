use Rattle.std.proofs.Common.{refl}
use Rattle.rtmfp_vlu.specs.Reading.{number_at, end_within}
use Rattle.session_flows.proofs.edges.what_options_tell.Goals as goal

pub returns-clause-one : goal.returns-clause-one
unfolding number_at end_within
returns-clause-one c = refl

pub returns-clause-long : goal.returns-clause-long
unfolding number_at end_within
returns-clause-long c = refl

pub returns-clause-more : goal.returns-clause-more
unfolding number_at end_within
returns-clause-more c = refl

pub returns-clause-cut : goal.returns-clause-cut
unfolding number_at end_within
returns-clause-cut c = refl

pub returns-clause-nothing : goal.returns-clause-nothing
unfolding number_at end_within
returns-clause-nothing c = refl

pub returns-clause-there : goal.returns-clause-there
unfolding number_at end_within
returns-clause-there c = refl

pub returns-clause-beyond : goal.returns-clause-beyond
unfolding number_at end_within
returns-clause-beyond c = refl

pub returns-clause-no_number : goal.returns-clause-no_number
unfolding number_at end_within
returns-clause-no_number c = refl
