use Rattle.std.proofs.Common.{◌≡◌, ◌<◌, ℕ, true, false, Some, length, get_or, refl, sym, ap, ◌∙◌, rules, arith}
use Rattle.std.specs.Prelude.{slice_get}
use Rattle.std.proofs.lemmas.Option.{slice_get_read}
use Rattle.flow_send.specs.Flow.{Flow}
use Rattle.session_flows.specs.Timing.{has_late}
use Rattle.session_flows.proofs.Kin.{kin}
use Rattle.session_flows.proofs.Settled.{may_set}
use Rattle.session_flows.proofs.Losses.{lost_some, lost_none, lost_late_all, lost_after_all, same_so_far}
use Rattle.session_flows.proofs.timing.lose.Goals as goal
use Rattle.session_flows.proofs.timing.lose.Goals.{then-find_lost, else-find_lost}

pub settle-requires : goal.settle-requires
settle-requires c =
    let at : ℕ = c.loop-sender.sender-index in
    let within : at < length c.loop-sender.sending = search rules in
    let f : Flow = get_or c.loop-sender.sending at c.sender-item.result in
    let there : slice_get c.loop-sender.sending at ≡ Some f = slice_get_read c.loop-sender.sending (length c.loop-sender.sending) at c.sender-item.result refl within c.sender-item.is ∙ ap (λ (x : Flow). Some x) c.sender-item.is in
    may_set c.loop-sender.sending c.loop-sender.kept at c.flight-before.result f c.find_lost.new.self c.loop-sender.invariant.numbered c.loop-sender.invariant.few c.loop-sender.invariant.kept there c.flight-before.ensures.bytes (kin {f = f} c.find_lost.ensures.after)

pub loop-sender-preserved : goal.loop-sender-preserved
loop-sender-preserved c =
    let at : ℕ = c.loop-sender.sender-index in
    let within : at < length c.loop-sender.sending = search rules in
    let f : Flow = get_or c.loop-sender.sending at c.sender-item.result in
    let there : slice_get c.loop-sender.sending at ≡ Some f = slice_get_read c.loop-sender.sending (length c.loop-sender.sending) at c.sender-item.result refl within c.sender-item.is ∙ ap (λ (x : Flow). Some x) c.sender-item.is in
    elim c.if-find_lost.branch [
      | then-find_lost w ↦
          let late : has_late c.args.moment c.args.resend_after f ≡ true = sym c.find_lost.ensures.late ∙ w.if-find_lost.true in
          same_so_far c.args.moment c.args.resend_after w.any-is w.sending-is w.kept-is
          (lost_some c.args.moment c.args.resend_after c.loop-sender.any at c.flight-before.result c.loop-sender.sending c.args.sending.now c.loop-sender.kept w.settle.new.self f c.find_lost.new.self there c.find_lost.ensures.after late c.flight-before.ensures.bytes
          w.settle.ensures c.loop-sender.invariant)
      | else-find_lost w ↦
          let none : has_late c.args.moment c.args.resend_after f ≡ false = sym c.find_lost.ensures.late ∙ w.if-find_lost.false in
          same_so_far c.args.moment c.args.resend_after w.any-is w.sending-is w.kept-is
          (lost_none c.args.moment c.args.resend_after c.loop-sender.any at c.loop-sender.sending c.args.sending.now c.loop-sender.kept f c.find_lost.new.self there c.find_lost.ensures.after none c.loop-sender.invariant)
    ]

pub returns-clause-late : goal.returns-clause-late
returns-clause-late c = lost_late_all c.args.moment c.args.resend_after c.loop-sender.any c.loop-sender.sender-index c.loop-sender.sending c.args.sending.now c.loop-sender.kept (omega (arith, c.loop-sender-test.false)) c.loop-sender.invariant

pub returns-clause-after : goal.returns-clause-after
returns-clause-after c = lost_after_all c.args.moment c.args.resend_after c.loop-sender.any c.loop-sender.sender-index c.loop-sender.sending c.args.sending.now c.loop-sender.kept (omega (arith, c.loop-sender-test.false)) c.loop-sender.invariant
