use Rattle.keyed_slab.proofs.OnceGiven.{named_no_more}
use Rattle.keyed_slab.proofs.laws.a_removed_key_names_nothing_again.Goals as goal

pub returns : goal.returns
returns g c = named_no_more
