use Rattle.std.proofs.Common.{refl}
use Rattle.flow_recv.proofs.edges.last_number.Goals as goal

pub returns-clause-marked_below : goal.returns-clause-marked_below
returns-clause-marked_below c = refl
