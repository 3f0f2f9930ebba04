use Rattle.std.proofs.Common.{◌≡◌, ℕ, ◌+◌, List, [], ◌∷◌, ◌++◌, Some, None, ap, sym, ◌∙◌, subst, rules}
use Rattle.flow_send.specs.Rows.{Row, end_row}
use Rattle.flow_send.specs.Sender.{sender_of, Sender, next_of, finished}
use Rattle.flow_send.specs.Steady.{Steady}
use Rattle.flow_send.specs.Flow.{Flow}
use Rattle.flow_send.proofs.Ends.{next_unfinished}
use Rattle.flow_send.proofs.Steadies.{steady_finished}
use Rattle.flow_send.proofs.Followed.{ended}
use Rattle.flow_send.proofs.Keepings.{ended_marks}
use Rattle.flow_send.proofs.sender.FlowSender.finish.Goals as goal

pub invariant_of-self : goal.invariant_of-self
invariant_of-self c =
    let i = c.self.inside in
    let s = sender_of i.forward i.rows.rows i.waiting i.finish i.sent i.upto i.told i.notice i.order in
    let steady : Steady s = c.self.invariant.0 in
    let none : i.finish ≡ None = search rules in
    let number : c.next-number.result ≡ next_of s = c.next-number.ensures ∙ ap (λ (f : Flow). next_of f.sender) (sym c.self.view_is) in
    let rows : c.push.new.self.rows ≡ i.rows.rows ++ end_row ∷ [] = c.push.ensures.rows ∙ ap (λ (r : Row). i.rows.rows ++ r ∷ []) c.end.ensures in
    let F : List Row → ℕ → Sender = λ rs n. sender_of i.forward rs i.waiting (Some n) i.sent i.upto i.told i.notice i.order in
    let is : F c.push.new.self.rows c.next-number.result ≡ finished s = ap (λ rs. F rs c.next-number.result) rows ∙ ap (λ n. F (i.rows.rows ++ end_row ∷ []) n) number in (
      subst Steady (sym is) (steady_finished s steady none (next_unfinished s steady none)),
      c.self.invariant.1,
      λ e. absurd cc,
      ended i.sendings (i.forward + 1) i.rows.rows c.push.new.self.rows rows c.self.invariant.3,
      ended_marks i.marks i.waiting (i.forward + 1) i.rows.rows c.push.new.self.rows rows c.self.invariant.4,
    )
