use Rattle.std.proofs.Common.{List, ap, sym, ◌∙◌, subst, arith}
use Rattle.flow_send.specs.declared.slots.Slot.{Slot}
use Rattle.flow_send.specs.Slots.{IsLine, waiting_in}
use Rattle.flow_send.proofs.Slotting.{line_front}
use Rattle.flow_send.proofs.messages.Messages.trim_front.Goals as goal

pub loop-front-preserved : goal.loop-front-preserved
loop-front-preserved c =
    let items = c.loop-front.self-inside.slots.items in
    let i = c.loop-front.invariant in
    let rest = c.pop_front.ensures.rest in
    let k = line_front items c.in-Some.front (sym c.in-Some.ensures) (omega (arith, c.if-front-eq0.false)) i.line in
    record { line = subst IsLine (sym rest) k.0; waiting = ap (λ (ss : List Slot). waiting_in ss) rest ∙ (k.1 ∙ i.waiting); count = i.count }
