use Rattle.std.proofs.Common.{refl}
use Rattle.rtmfp_cli.proofs.laws.node_statuses.Goals as goal

pub returns : goal.returns
returns c = record { done = refl; memory = refl; link = refl; sink = refl; entropy = refl }
