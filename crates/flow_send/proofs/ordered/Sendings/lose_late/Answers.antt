use Rattle.std.proofs.Common.{ap, sym, ◌∙◌}
use Rattle.flow_send.specs.Rows.{between, any_between}
use Rattle.flow_send.specs.Sender.{is_late, lost_if_late}
use Rattle.flow_send.specs.Ordered.{Ordered}
use Rattle.flow_send.proofs.Losing.{between_all, any_all}
use Rattle.flow_send.proofs.ordered.Sendings.lose_late.Goals as goal

pub lose_oldest-requires : goal.lose_oldest-requires
lose_oldest-requires c = c.requires (sym (ap (λ (o : Ordered). o.whole) c.self.view_is) ∙ c.if-not-self.false)

pub returns-then-not-self-clause-rows : goal.returns-then-not-self-clause-rows
returns-then-not-self-clause-rows c =
    let rows = c.args.rows.now.rows in
    let f = lost_if_late c.args.moment c.args.resend_after in
    c.lose_late-late.ensures.rows ∙ (ap (λ i. between f 0 i rows) c.len.ensures ∙ between_all f rows)

pub returns-then-not-self-clause-late : goal.returns-then-not-self-clause-late
returns-then-not-self-clause-late c =
    let rows = c.args.rows.now.rows in
    let f = is_late c.args.moment c.args.resend_after in
    c.lose_late-late.ensures.late ∙ (ap (λ i. any_between f 0 i rows) c.len.ensures ∙ any_all f rows)
