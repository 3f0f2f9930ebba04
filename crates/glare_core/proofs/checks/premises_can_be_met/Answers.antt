use Rattle.glare_core.proofs.Witness.{lively}
use Rattle.glare_core.proofs.checks.premises_can_be_met.Goals as goal

pub returns : goal.returns
returns c = lively
