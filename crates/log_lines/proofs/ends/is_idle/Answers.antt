use Rattle.std.proofs.Common.{rules}
use Rattle.log_lines.proofs.ends.is_idle.Goals as goal

pub returns-then-is_old_session : goal.returns-then-is_old_session
returns-then-is_old_session c = search rules
