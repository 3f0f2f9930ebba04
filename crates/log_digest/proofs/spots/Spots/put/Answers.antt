use Rattle.std.proofs.Common.{◌<◌, ◌∙◌, sym, subst, ap}
use Rattle.std.specs.FinMap.{insert}
use Rattle.log_digest.specs.Kept.{SpotMap}
use Rattle.keyed_slab.proofs.KeyMaps.{keys_put, never_ok}
use Rattle.log_digest.proofs.spots.Spots.put.Goals as goal

pub unreachable-requires : goal.unreachable-requires
unreachable-requires c = never_ok c.insert.result c.in-Err.field-0 (c.insert.ensures.succeeds (subst (λ (m : SpotMap). 0 < m.spare) (sym c.self.view_is) c.requires)) c.in-Err.is

pub returns : goal.returns
returns c =
    keys_put c.self.inside.map c.insert.new.self c.args.near c.args.spot c.in-Ok.ensures.updates
    ∙ ap (λ (m : SpotMap). insert m.table c.args.near c.args.spot) c.self.view_is
