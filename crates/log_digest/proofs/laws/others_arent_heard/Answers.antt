use Rattle.log_digest.proofs.Hears.{others_arent_heard}
use Rattle.log_digest.proofs.laws.others_arent_heard.Goals as goal

pub returns : goal.returns
returns c = others_arent_heard
