use Rattle.std.proofs.Common.{◌≡◌, ◌++◌, ◌∷◌, [], List, length, ap, sym, ◌∙◌, subst, arith, length-append}
use Rattle.flow_send.specs.declared.waiting.Waiting.{Waiting}
use Rattle.flow_send.specs.declared.slots.Slot.{Slot}
use Rattle.flow_send.specs.Steady.{Line}
use Rattle.flow_send.specs.Slots.{IsLine, slot_of, waiting_in}
use Rattle.flow_send.proofs.Slotting.{few_wait, line_push, waiting_push}
use Rattle.flow_send.proofs.messages.Messages.push.Goals as goal

pub overflow_add-self : goal.overflow_add-self
overflow_add-self c =
    let slots = c.self.inside.slots in
    omega (arith, few_wait slots.items, c.self.invariant.1, slots.ok, slots.small)

pushed : (c : goal.After-self-1) → c.push_back.new.self.items ≡ c.trim_back.new.slots.items ++ slot_of c.args.message ∷ []
pushed c = c.in_ok-push_back.ensures.items

waiting : (c : goal.After-self-1) → waiting_in c.push_back.new.self.items ≡ waiting_in c.self.inside.slots.items ++ c.args.message ∷ []
waiting c = ap (λ (ss : List Slot). waiting_in ss) (pushed c) ∙ (waiting_push c.trim_back.new.slots.items c.args.message ∙ ap (λ (ws : List Waiting). ws ++ c.args.message ∷ []) c.trim_back.ensures.waiting)

pub invariant_of-self-2 : goal.invariant_of-self-2
invariant_of-self-2 c =
    let w = c.args.message in
    let old = c.self.inside.slots.items in
    let e = ap (λ (ws : List Waiting). length ws) (waiting c) in (
      subst IsLine (sym (pushed c)) (line_push c.trim_back.new.slots.items w c.trim_back.ensures.last (subst (λ (ws : List Waiting). Line 0 w.number ws) (sym (c.trim_back.ensures.waiting ∙ c.self.view_is)) c.requires.last) c.requires.some c.trim_back.ensures.line),
      omega (arith, e, length-append (waiting_in old) (w ∷ []), c.self.invariant.1),
    )

pub returns-clause-pushed : goal.returns-clause-pushed
returns-clause-pushed c = waiting c ∙ ap (λ (ws : List Waiting). ws ++ c.args.message ∷ []) c.self.view_is
