use Rattle.log_arrivals.proofs.Telling.{it_tells}
use Rattle.log_arrivals.proofs.laws.what_is_found_tells.Goals as goal

pub returns : goal.returns
returns c = it_tells
