use Rattle.std.proofs.Common.{ℕ, ◌+◌, ◌-◌, Option, ap, sym, ◌∙◌}
use Rattle.flow_send.specs.Rows.{any_between}
use Rattle.flow_send.specs.Sender.{has_number, is_spent_row, is_spent}
use Rattle.flow_send.proofs.Numbered.{any_row_between, message_between}
use Rattle.flow_send.proofs.waiting.Waiting.is_spent.Goals as goal

pub returns-in-Some : goal.returns-in-Some
returns-in-Some c =
    let w = c.args.self.now in
    let rows = c.args.rows.now.rows in
    let n = c.args.forward + 1 in
    let t = is_spent_row c.in-Some.limit in
    (c.is_spent.ensures
    ∙ (ap (λ i. any_between t i c.to.result rows) c.from.ensures ∙ (ap (λ i. any_between t (w.number - n) i rows) c.to.ensures ∙ sym (any_row_between (has_number w) t n (w.number - n) (w.number + w.count - n) rows (message_between w n)))))
    ∙ ap (λ (o : Option ℕ). is_spent o w n rows) (sym c.in-Some.is)
