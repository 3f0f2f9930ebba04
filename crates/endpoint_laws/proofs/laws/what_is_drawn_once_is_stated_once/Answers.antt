use Rattle.endpoint_laws.proofs.DrawnOnce.{what_is_drawn_once}
use Rattle.endpoint_laws.proofs.laws.what_is_drawn_once_is_stated_once.Goals as goal

pub returns : goal.returns
returns c = what_is_drawn_once
