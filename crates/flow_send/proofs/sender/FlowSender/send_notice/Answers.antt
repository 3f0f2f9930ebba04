use Rattle.std.proofs.Common.{◌≡◌, max, Some, ap, sym, ◌∙◌, subst}
use Rattle.flow_send.specs.Sender.{sender_of}
use Rattle.flow_send.specs.Choice.{Notify, count_up, sent_after}
use Rattle.flow_send.specs.Steady.{Steady}
use Rattle.flow_send.proofs.Steadies.{notify_steady}
use Rattle.flow_send.proofs.sender.FlowSender.send_notice.Goals as goal

pub invariant_of-self : goal.invariant_of-self
invariant_of-self c =
    let i = c.self.inside in
    let moment = c.args.moment in
    let s = sender_of i.forward i.rows.rows i.waiting i.finish i.sent i.upto i.told i.notice i.order in
    let order : c.saturating_add-self-inside.result ≡ count_up 64 i.order = c.saturating_add-self-inside.ensures in
    let sent : c.max-self-inside.result ≡ max i.sent i.forward = c.max-self-inside.ensures in
    let is : sender_of i.forward i.rows.rows i.waiting i.finish c.max-self-inside.result i.upto i.told (Some moment) c.saturating_add-self-inside.result ≡ sent_after moment Notify s =
    ap (λ k. sender_of i.forward i.rows.rows i.waiting i.finish k i.upto i.told (Some moment) c.saturating_add-self-inside.result) sent
    ∙ ap (λ k. sender_of i.forward i.rows.rows i.waiting i.finish (max i.sent i.forward) i.upto i.told (Some moment) k) order in (
      subst Steady (sym is) (notify_steady s moment c.self.invariant.0),
      c.self.invariant.1,
      c.self.invariant.2,
      c.self.invariant.3,
      c.self.invariant.4,
    )
