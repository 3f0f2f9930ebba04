use Rattle.std.proofs.Common.{rules}
use Rattle.rtmfp_forms.proofs.address.Address.same_place.Goals as goal

pub returns-then-eq : goal.returns-then-eq
returns-then-eq c = search rules
