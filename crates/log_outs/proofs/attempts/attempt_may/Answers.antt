use Rattle.std.proofs.Common.{rules}
use Rattle.log_outs.proofs.attempts.attempt_may.Goals as goal

pub returns : goal.returns
returns c = search rules
