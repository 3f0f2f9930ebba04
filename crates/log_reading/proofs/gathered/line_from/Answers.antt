use Rattle.std.proofs.Common.{rules}
use Rattle.log_reading.proofs.gathered.line_from.Goals as goal

pub returns : goal.returns
returns c = search rules
