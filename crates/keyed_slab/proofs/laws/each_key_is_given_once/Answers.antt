use Rattle.keyed_slab.proofs.OnceGiven.{each_is_given_once}
use Rattle.keyed_slab.proofs.laws.each_key_is_given_once.Goals as goal

pub returns : goal.returns
returns g c = each_is_given_once
