use Rattle.endpoint_checks.proofs.Searched.{searches_refused}
use Rattle.endpoint_checks.proofs.searches.Goals as goal

pub returns : goal.returns
returns c = searches_refused
