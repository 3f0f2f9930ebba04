use Rattle.std.proofs.Common.{rules}
use Rattle.glare_core.proofs.given.held_after.Goals as goal

pub returns-in-Ended : goal.returns-in-Ended
returns-in-Ended c = search rules
