use Rattle.std.proofs.Common.{ℕ, List, ◌≡◌, ◌++◌, ◌∷◌, [], length, Some, sym, ap, ◌∙◌, subst}
use Rattle.std.specs.Ordering.{nat_cmp}
use Rattle.std.specs.BTreeMap.{Updates}
use Rattle.std.proofs.lemmas.List.{length-map}
use Rattle.rendezvous_world.specs.declared.keyed.Row.{Row}
use Rattle.rendezvous_world.specs.Keyed.{IsChained}
use Rattle.rendezvous_world.proofs.Chained.{chained_more}
use Rattle.rendezvous_world.proofs.keyed.Keyed.push.Goals as goal

pub invariant_of-self-2 : goal.invariant_of-self-2
invariant_of-self-2 c =
    let rows = c.self.inside.rows.items in
    let at : c.len-at.result ≡ length rows = c.len-at.ensures ∙ ap (λ (ks : List ℕ). length ks) (sym c.self.view_is) ∙ length-map {B = ℕ} rows (λ (r : Row). r.key) in
    let puts = subst (λ (n : ℕ). Updates nat_cmp c.self.inside.last c.insert.new.self c.args.key (Some n)) at c.in-Ok.ensures.updates in
    let rows_now = c.put.ensures ∙ ap (λ (rs : List Row). rs ++ record { key = c.args.key; before = c.in-Ok.before } ∷ []) c.reserve.ensures.items in
    subst (λ (rs : List Row). IsChained rs c.insert.new.self) (sym rows_now)
    (chained_more rows c.self.inside.last c.insert.new.self c.args.key c.in-Ok.before c.self.invariant c.in-Ok.ensures.old puts)
