use Rattle.std.proofs.Common.{◌≡◌, List, [], ◌∷◌, ◌+◌, ◌<◌, ◌^◌, length, ap, sym, ◌∙◌, subst, arith}
use Rattle.std.specs.List.{sum_by}
use Rattle.flow_send.specs.declared.totals.Totals.{Totals}
use Rattle.flow_send.specs.Moved.{moved, Fit}
use Rattle.flow_send.specs.Passed.{ArePassed}
use Rattle.flow_send.specs.Finder.{Finds, is_pending}
use Rattle.flow_send.specs.declared.finder.Pending.TheVariants.{First, Again}
use Rattle.flow_send.specs.Rows.{Row, Roomy, stored_of, totals_of, row_totals}
use Rattle.flow_send.proofs.Summing.{push_fits}
use Rattle.std.proofs.lemmas.Grind.{common_steps}
use Rattle.flow_send.proofs.Passing.{passed_more}
use Rattle.flow_send.proofs.Finding.{found_push}
use Rattle.flow_send.proofs.rows.Rows.push.Goals as goal

pub moved-self-inside-requires-clause-fits : goal.moved-self-inside-requires-clause-fits
moved-self-inside-requires-clause-fits c =
    let i = c.self.inside in
    let none : Totals = record { flight = 0; flying = 0; stored = 0; lost = 0 } in
    let n : length i.rows.items + 1 < 2 ^ 64 = omega (arith, i.rows.ok, i.rows.small) in
    let fits : sum_by stored_of i.rows.items + stored_of c.args.row < 2 ^ 64 = subst (λ (p : Roomy). sum_by stored_of p.rows + stored_of c.args.row < 2 ^ 64) (sym c.self.view_is) c.requires.fits in
    let m : moved i.totals none c.totals-added.result ≡ moved (totals_of i.rows.items) none (row_totals c.args.row) = ap (λ (t : Totals). moved t none c.totals-added.result) c.self.invariant.0 ∙ ap (λ (t : Totals). moved (totals_of i.rows.items) none t) c.totals-added.ensures in
    subst Fit (sym m) (push_fits i.rows.items c.args.row fits n)

pub invariant_of-self : goal.invariant_of-self
invariant_of-self c =
    let i = c.self.inside in
    let state : c.state-state.result ≡ c.args.row.state = c.state-state.ensures in
    let at : c.len-at.result ≡ length i.rows.items = omega (arith, c.len-at.ensures, i.rows.ok) in (
      grind (arith, common_steps),
      subst (λ (xs : List Row). ArePassed c.push.new.self.counts xs) (sym c.push_back_reserved.ensures.items) (passed_more c.push.new.self.counts i.rows.items (c.args.row ∷ []) (c.push.ensures.counts i.rows.items c.self.invariant.1)),
      subst (Finds Again c.note.new.self) (sym c.push_back_reserved.ensures.items) (found_push Again i.lost_rows c.note.new.self i.rows.items c.len-at.result c.args.row at c.note.ensures.base c.note.ensures.others (λ e. c.note.ensures.own (ap (is_pending Again) state ∙ e)) c.self.invariant.2),
      subst (Finds First c.note-2.new.self) (sym c.push_back_reserved.ensures.items) (found_push First i.unsent_rows c.note-2.new.self i.rows.items c.len-at.result c.args.row at c.note-2.ensures.base c.note-2.ensures.others (λ e. c.note-2.ensures.own (ap (is_pending First) state ∙ e)) c.self.invariant.3),
    )
