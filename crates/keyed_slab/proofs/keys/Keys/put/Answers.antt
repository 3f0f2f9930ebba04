use Rattle.std.proofs.Common.{◌<◌, ◌∙◌, sym, subst, ap}
use Rattle.std.specs.FinMap.{insert}
use Rattle.keyed_slab.specs.Keys.{KeyMap}
use Rattle.keyed_slab.proofs.KeyMaps.{keys_put, never_ok}
use Rattle.keyed_slab.proofs.keys.Keys.put.Goals as goal

pub unreachable-requires : goal.unreachable-requires
unreachable-requires c = never_ok c.insert.result c.in-Err.field-0 (c.insert.ensures.succeeds (subst (λ (k : KeyMap). 0 < k.spare) (sym c.self.view_is) c.requires)) c.in-Err.is

pub returns : goal.returns
returns c =
    keys_put c.self.inside.map c.insert.new.self c.args.near c.args.key c.in-Ok.ensures.updates
    ∙ ap (λ (k : KeyMap). insert k.keys c.args.near c.args.key) c.self.view_is
