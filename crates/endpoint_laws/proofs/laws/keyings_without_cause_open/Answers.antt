use Rattle.endpoint_laws.proofs.Complete.{keyings_without_cause_open as opens}
use Rattle.endpoint_laws.proofs.laws.keyings_without_cause_open.Goals as goal

pub returns : goal.returns
returns c = opens
