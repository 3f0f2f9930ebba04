use Rattle.std.proofs.Common.{arith}
use Rattle.std.proofs.lemmas.Grind.{common_steps}
use Rattle.identity.proofs.cert.fault_of.Goals as goal

pub returns-then-is_ascii : goal.returns-then-is_ascii
returns-then-is_ascii c = grind (arith, common_steps)

pub returns-else-is_ascii : goal.returns-else-is_ascii
returns-else-is_ascii c = grind (arith, common_steps)
