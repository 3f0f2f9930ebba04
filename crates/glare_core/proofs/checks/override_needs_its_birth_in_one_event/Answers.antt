use Rattle.glare_core.proofs.Counter.{early_override}
use Rattle.glare_core.proofs.checks.override_needs_its_birth_in_one_event.Goals as goal

pub returns : goal.returns
returns c = early_override
