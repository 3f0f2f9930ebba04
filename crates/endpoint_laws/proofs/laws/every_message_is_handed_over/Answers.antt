use Rattle.endpoint_laws.proofs.AllHanded.{all_handed}
use Rattle.endpoint_laws.proofs.laws.every_message_is_handed_over.Goals as goal

pub returns : goal.returns
returns c = all_handed
