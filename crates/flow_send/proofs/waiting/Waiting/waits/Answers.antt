use Rattle.std.proofs.Common.{◌+◌, ◌-◌, not, Bool, ap, sym, ◌∙◌}
use Rattle.flow_send.specs.Rows.{Row, any_between, is_settled}
use Rattle.flow_send.specs.Sender.{has_number}
use Rattle.flow_send.proofs.Numbered.{any_row_between, message_between}
use Rattle.flow_send.proofs.waiting.Waiting.waits.Goals as goal

pub returns-clause-waits : goal.returns-clause-waits
returns-clause-waits c =
    let w = c.args.self.now in
    let rows = c.args.rows.now.rows in
    let n = c.args.forward + 1 in
    let t : Row → Bool = λ r. not (is_settled r.state) in
    c.waits.ensures.waits
    ∙ (ap (λ i. any_between t i c.to.result rows) c.from.ensures ∙ (ap (λ i. any_between t (w.number - n) i rows) c.to.ensures ∙ sym (any_row_between (has_number w) t n (w.number - n) (w.number + w.count - n) rows (message_between w n))))
