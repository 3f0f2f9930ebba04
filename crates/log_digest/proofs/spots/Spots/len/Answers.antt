use Rattle.std.proofs.Common.{◌∙◌, sym, ap}
use Rattle.std.specs.FinMap.{len}
use Rattle.log_digest.specs.Kept.{SpotMap}
use Rattle.keyed_slab.proofs.KeyMaps.{len_keys}
use Rattle.log_digest.proofs.spots.Spots.len.Goals as goal

pub returns : goal.returns
returns c = c.len.ensures.len ∙ sym (len_keys c.self.inside.map.entries c.len.ensures.unique) ∙ ap (λ (m : SpotMap). len m.table) c.self.view_is
