use Rattle.std.proofs.Common.{rules}
use Rattle.endpoint_model.proofs.kinds.kind_of.Goals as goal

pub returns-in-12 : goal.returns-in-12
returns-in-12 c = search rules
