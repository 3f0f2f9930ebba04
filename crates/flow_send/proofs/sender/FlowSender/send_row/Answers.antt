use Rattle.std.proofs.Common.{◌≡◌, ◌+◌, ◌<◌, max, List, length, ap, sym, ◌∙◌, subst, arith}
use Rattle.std.specs.Prelude.{slice_set}
use Rattle.flow_send.specs.declared.pick.Pick.TheVariants as pick
use Rattle.flow_send.specs.Rows.{Row, row_at, map_rows}
use Rattle.flow_send.specs.Sender.{sender_of, Sender}
use Rattle.flow_send.specs.Choice.{sent_row, count_up, put_at, sent_after}
use Rattle.flow_send.specs.Steady.{Steady}
use Rattle.flow_send.specs.Picked.{picked, IsOffered}
use Rattle.flow_send.specs.Flow.{Flow, with_sender}
use Rattle.flow_send.proofs.Chosen.{put_is}
use Rattle.flow_send.proofs.Steadies.{steady_sent_at, chosen_open}
use Rattle.flow_send.proofs.Followed.{sent_on}
use Rattle.flow_send.proofs.Keepings.{sent_marks}
use Rattle.flow_send.proofs.sender.FlowSender.send_row.Goals as goal

abbrev At : goal.After-self-2-1 → Sender
At c = let i = c.self.inside in sender_of i.forward i.rows.rows i.waiting i.finish i.sent i.upto i.told i.notice i.order

after : (c : goal.After-self-2-1) → sender_of c.self.inside.forward c.send.new.self.rows c.self.inside.waiting c.self.inside.finish c.max-self-inside.result c.self.inside.upto c.self.inside.told c.self.inside.notice c.saturating_add-self-inside.result ≡ sent_after c.args.moment (picked (At c) (pick.Row c.args.at)) (At c)
after c =
    let i = c.self.inside in
    let s = At c in
    let at = c.args.at in
    let n = i.forward + 1 + at in
    let lt : at < length i.rows.rows = subst (λ (f : Flow). at < length f.sender.rows) (sym c.self.view_is) c.requires.there in
    let order : c.saturating_add-self-inside.result ≡ count_up 64 i.order = c.saturating_add-self-inside.ensures in
    let rows : c.send.new.self.rows ≡ map_rows (put_at n (sent_row c.args.moment (count_up 64 i.order) (row_at i.rows.rows at))) (i.forward + 1) i.rows.rows =
    c.send.ensures.rows ∙ (ap (λ k. slice_set i.rows.rows at (sent_row c.args.moment k (row_at i.rows.rows at))) order ∙ sym (put_is (i.forward + 1) at (sent_row c.args.moment (count_up 64 i.order) (row_at i.rows.rows at)) i.rows.rows lt)) in
    let sent : c.max-self-inside.result ≡ max i.sent n = c.max-self-inside.ensures in
    ap (λ (rs : List Row). sender_of i.forward rs i.waiting i.finish c.max-self-inside.result i.upto i.told i.notice c.saturating_add-self-inside.result) rows
    ∙ (ap (λ k. sender_of i.forward (map_rows (put_at n (sent_row c.args.moment (count_up 64 i.order) (row_at i.rows.rows at))) (i.forward + 1) i.rows.rows) i.waiting i.finish k i.upto i.told i.notice c.saturating_add-self-inside.result) sent
    ∙ ap (λ k. sender_of i.forward (map_rows (put_at n (sent_row c.args.moment (count_up 64 i.order) (row_at i.rows.rows at))) (i.forward + 1) i.rows.rows) i.waiting i.finish (max i.sent n) i.upto i.told i.notice k) order)

pub send-requires-clause-open : goal.send-requires-clause-open
send-requires-clause-open c =
    let i = c.self.inside in
    let s = sender_of i.forward i.rows.rows i.waiting i.finish i.sent i.upto i.told i.notice i.order in
    let o : IsOffered s (pick.Row c.args.at) = subst (λ (f : Flow). IsOffered f.sender (pick.Row c.args.at)) (sym c.self.view_is) c.requires in
    chosen_open s o.moment o.resend (i.forward + 1 + c.args.at) (row_at i.rows.rows c.args.at) o.chosen

pub invariant_of-self : goal.invariant_of-self
invariant_of-self c =
    let o : IsOffered (At c) (pick.Row c.args.at) = subst (λ (f : Flow). IsOffered f.sender (pick.Row c.args.at)) (sym c.self.view_is) c.requires in
    let steady : Steady (sent_after c.args.moment (picked (At c) (pick.Row c.args.at)) (At c)) = steady_sent_at (At c) c.args.moment o.moment o.resend (picked (At c) (pick.Row c.args.at)) o.chosen c.self.invariant.0 in (
      subst Steady (sym (after c)) steady,
      c.self.invariant.1,
      λ none. let a = c.self.invariant.2 none in omega (arith, a, c.send.ensures.room),
      sent_on c.self.inside.sendings c.push.new.self c.saturating_add-self-inside.result (c.self.inside.forward + 1) c.args.at c.args.moment c.self.inside.rows.rows c.send.new.self.rows (subst (λ (f : Flow). c.args.at < length f.sender.rows) (sym c.self.view_is) c.requires.there) c.push.ensures c.send.ensures.rows c.self.invariant.3,
      sent_marks c.self.inside.marks c.self.inside.waiting c.saturating_add-self-inside.result (c.self.inside.forward + 1) c.args.at c.args.moment c.self.inside.rows.rows c.send.new.self.rows (subst (λ (f : Flow). c.args.at < length f.sender.rows) (sym c.self.view_is) c.requires.there) c.send.ensures.rows c.self.invariant.4,
    )

pub returns : goal.returns
returns c =
    let i = c.self.inside in
    let F : Sender → Flow = λ t. record { id = i.id; options = Rattle.rtmfp_forms.specs.OptionReading.options_in i.options.items; priority = i.priority; sender = t } in
    subst (λ (f : Flow). F (sender_of i.forward c.send.new.self.rows i.waiting i.finish c.max-self-inside.result i.upto i.told i.notice c.saturating_add-self-inside.result) ≡ with_sender f (sent_after c.args.moment (picked f.sender (pick.Row c.args.at)) f.sender)) c.self.view_is (ap F (after c))
