use Rattle.std.proofs.Common.{◌≡◌, ◌++◌, ◌∷◌, [], Option, Some, ap, sym, ◌∙◌, arith}
use Rattle.std.specs.Option.{option_to_list}
use Rattle.std.specs.List.{slice_index_or}
use Rattle.flow_send.specs.declared.slots.Slot.{Slot}
use Rattle.flow_send.proofs.Slotting.{there, get_is, last_waits, empty_waits, line_back}
use Rattle.flow_send.proofs.slots.trim_back.Goals as goal

pub returns-then-last-eq0-clause-last : goal.returns-then-last-eq0-clause-last
returns-then-last-eq0-clause-last c =
    let items = c.loop-last.slots.items in
    let at = c.saturating_sub.result in
    let lt = there at items c.in-Some.last (sym c.in-Some.ensures) in
    last_waits at items c.in-Some.last (omega (arith, lt, c.saturating_sub.ensures, c.len.ensures, c.loop-last.slots.ok)) (sym c.in-Some.ensures) c.if-last-eq0.true

pub loop-last-preserved : goal.loop-last-preserved
loop-last-preserved c =
    let items = c.loop-last.slots.items in
    let at = c.saturating_sub.result in
    let s = c.in-Some.last in
    let lt = there at items s (sym c.in-Some.ensures) in
    let popped : c.pop_back.result ≡ Some s = c.pop_back.ensures.value s (omega (arith, lt, c.loop-last.slots.ok)) ∙ ap (λ x. Some x) (ap (λ i. slice_index_or items i s) (omega (arith, c.saturating_sub.ensures, c.len.ensures)) ∙ get_is at items s s (sym c.in-Some.ensures)) in
    let e : items ≡ c.pop_back.new.self.items ++ s ∷ [] = c.pop_back.ensures.items ∙ ap (λ (o : Option Slot). c.pop_back.new.self.items ++ option_to_list o) popped in
    let k = line_back items c.pop_back.new.self.items s e (omega (arith, c.if-last-eq0.false)) c.loop-last.invariant.line in
    record { line = k.0; waiting = k.1 ∙ c.loop-last.invariant.waiting }

pub returns-clause-last : goal.returns-clause-last
returns-clause-last c = empty_waits c.saturating_sub.result c.loop-last.slots.items (sym c.in_default.ensures) (omega (arith, c.saturating_sub.ensures, c.len.ensures, c.loop-last.slots.ok))
