use Rattle.std.proofs.Common.{◌≡◌, ◌+◌, ◌-◌, ◌<◌, cond, length, ap, sym, ◌∙◌, subst}
use Rattle.flow_send.specs.Sender.{sender_of}
use Rattle.flow_send.specs.Rows.{row_at, is_lost, is_unsent}
use Rattle.flow_send.specs.Choice.{Send, Notify, Nothing, notice_due, next_choice}
use Rattle.flow_send.specs.Flow.{Flow}
use Rattle.flow_send.proofs.Sendings.{unsent_sent}
use Rattle.flow_send.proofs.Chosen.{index_there, next_lost, next_unsent, next_notice}
use Rattle.flow_send.proofs.sender.FlowSender.next_pick.Goals as goal

pub returns-in-Some-clause-picked : goal.returns-in-Some-clause-picked
returns-in-Some-clause-picked c =
    let i = c.self.inside in
    let s = sender_of i.forward i.rows.rows i.waiting i.finish i.sent i.upto i.told i.notice i.order in
    subst (λ (f : Flow). next_choice c.args.moment c.args.resend_after f.sender ≡ Send (f.sender.forward + 1 + c.in-Some.at) (row_at f.sender.rows c.in-Some.at)) c.self.view_is
    (next_lost s c.args.moment c.args.resend_after c.in-Some.at (sym c.first_lost.ensures ∙ c.in-Some.is))

pub returns-in-Some-clause-there : goal.returns-in-Some-clause-there
returns-in-Some-clause-there c =
    subst (λ (f : Flow). c.in-Some.at < length f.sender.rows) c.self.view_is (index_there is_lost c.self.inside.rows.rows c.in-Some.at (sym c.first_lost.ensures ∙ c.in-Some.is))

pub first_unsent-requires : goal.first_unsent-requires
first_unsent-requires c =
    let i = c.self.inside in
    let count : c.sent_rows.result ≡ i.sent - i.forward = c.sent_rows.ensures.count ∙ ap (λ (f : Flow). f.sender.sent - f.sender.forward) (sym c.self.view_is) in
    unsent_sent i.sent i.forward c.sent_rows.result i.rows.rows count c.self.invariant.0.rows

pub returns-in-Some-first_unsent-clause-picked : goal.returns-in-Some-first_unsent-clause-picked
returns-in-Some-first_unsent-clause-picked c =
    let i = c.self.inside in
    let s = sender_of i.forward i.rows.rows i.waiting i.finish i.sent i.upto i.told i.notice i.order in
    subst (λ (f : Flow). next_choice c.args.moment c.args.resend_after f.sender ≡ Send (f.sender.forward + 1 + c.in-Some-first_unsent.at) (row_at f.sender.rows c.in-Some-first_unsent.at)) c.self.view_is
    (next_unsent s c.args.moment c.args.resend_after c.in-Some-first_unsent.at (sym c.first_lost.ensures ∙ c.in_default.is) (sym c.first_unsent.ensures ∙ c.in-Some-first_unsent.is))

pub returns-in-Some-first_unsent-clause-there : goal.returns-in-Some-first_unsent-clause-there
returns-in-Some-first_unsent-clause-there c =
    subst (λ (f : Flow). c.in-Some-first_unsent.at < length f.sender.rows) c.self.view_is (index_there is_unsent c.self.inside.rows.rows c.in-Some-first_unsent.at (sym c.first_unsent.ensures ∙ c.in-Some-first_unsent.is))

pub returns-then-notice_due-clause-picked : goal.returns-then-notice_due-clause-picked
returns-then-notice_due-clause-picked c =
    let i = c.self.inside in
    let s = sender_of i.forward i.rows.rows i.waiting i.finish i.sent i.upto i.told i.notice i.order in
    subst (λ (f : Flow). next_choice c.args.moment c.args.resend_after f.sender ≡ notice_due c.args.moment c.args.resend_after f.sender) c.self.view_is
    (next_notice s c.args.moment c.args.resend_after (sym c.first_lost.ensures ∙ c.in_default.is) (sym c.first_unsent.ensures ∙ c.in_default-first_unsent.is))
    ∙ (c.notice_due.ensures ∙ ap (λ b. cond b Notify Nothing) c.if-notice_due.true)

pub returns-clause-picked : goal.returns-clause-picked
returns-clause-picked c =
    let i = c.self.inside in
    let s = sender_of i.forward i.rows.rows i.waiting i.finish i.sent i.upto i.told i.notice i.order in
    subst (λ (f : Flow). next_choice c.args.moment c.args.resend_after f.sender ≡ notice_due c.args.moment c.args.resend_after f.sender) c.self.view_is
    (next_notice s c.args.moment c.args.resend_after (sym c.first_lost.ensures ∙ c.in_default.is) (sym c.first_unsent.ensures ∙ c.in_default-first_unsent.is))
    ∙ (c.notice_due.ensures ∙ ap (λ b. cond b Notify Nothing) c.if-notice_due.false)
