use Rattle.std.proofs.Common.{◌≡◌, ◌+◌, List, map, ap, sym, ◌∙◌, subst, arith}
use Rattle.std.specs.List.{list_any}
use Rattle.flow_send.specs.Rows.{Row}
use Rattle.flow_send.specs.Sender.{sender_of, Sender, is_late, lost_if_late, lost_late}
use Rattle.flow_send.specs.Steady.{Steady, end_of}
use Rattle.flow_send.specs.Flow.{Flow, with_sender}
use Rattle.flow_send.proofs.Keepings.{lost_marks}
use Rattle.flow_send.proofs.Sendings.{none_late}
use Rattle.flow_send.proofs.Steadies.{steady_lost}
use Rattle.flow_send.proofs.Walking.{in_line}
use Rattle.flow_send.proofs.sender.FlowSender.lose.Goals as goal

abbrev At : goal.After-lose_late → Sender
At c = let i = c.self.inside in sender_of i.forward i.rows.rows i.waiting i.finish i.sent i.upto i.told i.notice i.order

rows_are : (c : goal.After-lose_late) → c.lose_late.new.rows.rows ≡ map (lost_if_late c.args.moment c.args.resend_after) (At c).rows
rows_are c = c.lose_late.ensures.rows

pub mark-requires-clause-follows : goal.mark-requires-clause-follows
mark-requires-clause-follows c = c.self.invariant.3

pub mark-requires-clause-line : goal.mark-requires-clause-line
mark-requires-clause-line c =
    let i = c.self.inside in
    in_line 0 (end_of (sender_of i.forward i.rows.rows i.waiting i.finish i.sent i.upto i.told i.notice i.order)) i.waiting c.self.invariant.0.line

pub lose_late-requires : goal.lose_late-requires
lose_late-requires c = c.self.invariant.3

pub invariant_of-self : goal.invariant_of-self
invariant_of-self c =
    let i = c.self.inside in
    let s = At c in
    let is : sender_of i.forward c.lose_late.new.rows.rows i.waiting i.finish i.sent i.upto i.told i.notice i.order ≡ lost_late c.args.moment c.args.resend_after s =
    ap (λ (rs : List Row). sender_of i.forward rs i.waiting i.finish i.sent i.upto i.told i.notice i.order) (rows_are c) in (
      subst Steady (sym is) (steady_lost s c.args.moment c.args.resend_after c.self.invariant.0),
      c.self.invariant.1,
      λ none. let a = c.self.invariant.2 none in omega (arith, a, c.lose_late.ensures.room),
      c.lose_late.ensures.follows,
      lost_marks i.marks c.mark.new.marks i.waiting c.args.moment c.args.resend_after (i.forward + 1) i.rows.rows c.lose_late.new.rows.rows (rows_are c) c.mark.ensures.grows c.mark.ensures.covers c.self.invariant.4,
    )

pub returns-clause-late : goal.returns-clause-late
returns-clause-late c =
    let s = At c in
    subst (λ (f : Flow). c.lose_late.result ≡ list_any (is_late c.args.moment c.args.resend_after) f.sender.rows) c.self.view_is (
    c.lose_late.ensures.late
    )

pub returns-clause-after : goal.returns-clause-after
returns-clause-after c =
    let i = c.self.inside in
    let F : List Row → Flow = λ rs.
    record { id = i.id; options = Rattle.rtmfp_forms.specs.OptionReading.options_in i.options.items; priority = i.priority; sender = sender_of i.forward rs i.waiting i.finish i.sent i.upto i.told i.notice i.order } in
    subst (λ (f : Flow). F c.lose_late.new.rows.rows ≡ with_sender f (lost_late c.args.moment c.args.resend_after f.sender)) c.self.view_is (ap F (rows_are c))

pub returns-clause-none_late : goal.returns-clause-none_late
returns-clause-none_late c =
    let s = At c in
    ap (λ (rs : List Row). list_any (is_late c.args.moment c.args.resend_after) rs) (rows_are c) ∙ none_late c.args.moment c.args.resend_after s.rows
