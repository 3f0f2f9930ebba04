use Rattle.std.proofs.Common.{◌∙◌, ap}
use Rattle.std.specs.FinMap.{remove}
use Rattle.log_digest.specs.Kept.{SpotMap}
use Rattle.keyed_slab.proofs.KeyMaps.{keys_taken}
use Rattle.log_digest.proofs.spots.Spots.take.Goals as goal

pub returns : goal.returns
returns c = keys_taken c.self.inside.map c.remove.new.self c.args.near c.remove.ensures.updates ∙ ap (λ (m : SpotMap). remove m.table c.args.near) c.self.view_is
