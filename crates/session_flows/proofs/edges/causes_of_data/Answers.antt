use Rattle.std.proofs.Common.{refl}
use Rattle.rtmfp_vlu.specs.Reading.{number_at, end_within}
use Rattle.session_flows.proofs.edges.causes_of_data.Goals as goal

pub returns-clause-answers : goal.returns-clause-answers
unfolding number_at end_within
returns-clause-answers c = λ session. refl

pub returns-clause-made_astray : goal.returns-clause-made_astray
unfolding number_at end_within
returns-clause-made_astray c = λ session. refl
