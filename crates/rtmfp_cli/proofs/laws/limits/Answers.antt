use Rattle.std.proofs.Common.{refl}
use Rattle.rtmfp_cli.proofs.laws.limits.Goals as goal

pub returns : goal.returns
returns c = record { lines = refl; show = refl; replay = refl; journal = refl }
