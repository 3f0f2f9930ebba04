use Rattle.log_contexts.proofs.Births.{births_open}
use Rattle.log_contexts.proofs.laws.births_open.Goals as goal

pub returns : goal.returns
returns c = births_open
