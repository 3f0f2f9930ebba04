use Rattle.std.proofs.Common.{rules}
use Rattle.log_outs.proofs.attempts.takes_hello.Goals as goal

pub returns : goal.returns
returns c = search rules
