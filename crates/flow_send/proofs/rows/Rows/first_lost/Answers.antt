use Rattle.std.proofs.Common.{◌≡◌, sym, ◌∙◌, ap}
use Rattle.std.specs.List.{sum_by}
use Rattle.flow_send.specs.declared.totals.Totals.{Totals}
use Rattle.flow_send.specs.Rows.{Roomy, lost_of, first_index, is_lost}
use Rattle.flow_send.proofs.Summing.{none_lost}
use Rattle.flow_send.proofs.Finding.{first_whole}
use Rattle.flow_send.proofs.rows.Rows.first_lost.Goals as goal

pub returns-then-self-eq0 : goal.returns-then-self-eq0
returns-then-self-eq0 c =
    let z : sum_by lost_of c.args.self.now.rows ≡ 0 =
    sym (ap (λ (p : Roomy). sum_by lost_of p.rows) c.self.view_is) ∙ (sym (ap (λ (t : Totals). t.lost) c.self.invariant.0) ∙ c.if-self-eq0.true) in
    sym (none_lost 0 c.args.self.now.rows z)

pub first-requires : goal.first-requires
first-requires c = c.self.invariant.2

pub returns : goal.returns
returns c = c.first.ensures ∙ (first_whole c.self.inside.rows.items ∙ ap (λ (p : Roomy). first_index is_lost 0 p.rows) c.self.view_is)
