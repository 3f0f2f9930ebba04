use Rattle.std.proofs.Common.{rules}
use Rattle.log_outs.proofs.attempts.goes_in.Goals as goal

pub returns-in-Some : goal.returns-in-Some
returns-in-Some c = search rules
