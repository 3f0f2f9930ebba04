use Rattle.std.proofs.Common.{◌+◌, ◌-◌, ap, sym, ◌∙◌}
use Rattle.flow_send.specs.Rows.{between}
use Rattle.flow_send.specs.Sender.{has_number, give_up_row}
use Rattle.flow_send.proofs.Numbered.{map_between, message_between}
use Rattle.flow_send.proofs.waiting.Waiting.give_up.Goals as goal

pub returns-clause-rows : goal.returns-clause-rows
returns-clause-rows c =
    let w = c.args.self.now in
    let rows = c.args.rows.now.rows in
    let n = c.args.forward + 1 in
    c.give_up.ensures.rows
    ∙ (ap (λ i. between give_up_row i c.to.result rows) c.from.ensures ∙ (ap (λ i. between give_up_row (w.number - n) i rows) c.to.ensures ∙ sym (map_between (has_number w) give_up_row n (w.number - n) (w.number + w.count - n) rows (message_between w n))))
