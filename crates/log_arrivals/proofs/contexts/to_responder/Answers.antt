use Rattle.std.proofs.Common.{refl}
use Rattle.log_arrivals.proofs.contexts.to_responder.Goals as goal

pub returns : goal.returns
returns c = refl
