use Rattle.std.proofs.Common.{rules}
use Rattle.log_lines.proofs.things.may_end.Goals as goal

pub returns-then-is_attempt : goal.returns-then-is_attempt
returns-then-is_attempt c = search rules
