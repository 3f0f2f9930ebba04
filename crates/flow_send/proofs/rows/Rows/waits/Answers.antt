use Rattle.std.proofs.Common.{not, ap, sym, ◌∙◌, arith, rules}
use Rattle.flow_send.specs.Rows.{Row, Roomy, any_between, is_settled}
use Rattle.flow_send.proofs.Between.{any_none}
use Rattle.flow_send.proofs.Passing.{any_behind}
use Rattle.flow_send.proofs.rows.Rows.waits.Goals as goal

pub returns-then-end-to-clause-waits : goal.returns-then-end-to-clause-waits
returns-then-end-to-clause-waits c =
    let rows = c.args.self.now.rows in
    let end = c.known_to-end.result in
    let k = c.known_to-end.ensures in
    sym (any_none (λ (r : Row). not (is_settled r.state)) end c.args.to rows (omega arith)) ∙ any_behind c.args.from end c.args.to rows k.order k.inside k.acked

pub note-requires : goal.note-requires
note-requires c = search rules

pub returns-clause-waits : goal.returns-clause-waits
returns-clause-waits c =
    let end = c.known_to-end.result in
    let k = c.known_to-end.ensures in
    c.waits_from.ensures
    ∙ (ap (λ (q : Roomy). any_between (λ (r : Row). not (is_settled r.state)) end c.args.to q.rows) c.note.ensures
    ∙ any_behind c.args.from end c.args.to c.args.self.now.rows k.order k.inside k.acked)
