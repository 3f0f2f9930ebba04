use Rattle.std.proofs.Common.{refl}
use Rattle.rtmfp_vlu.specs.Vlu.{vlu, groups_before}
use Rattle.flow_send.proofs.edges.window_and_room.Goals as goal

pub returns-clause-full : goal.returns-clause-full
unfolding vlu groups_before
returns-clause-full c = refl

pub returns-clause-notice : goal.returns-clause-notice
unfolding vlu groups_before
returns-clause-notice c = refl
