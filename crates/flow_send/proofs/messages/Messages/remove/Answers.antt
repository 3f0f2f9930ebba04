use Rattle.std.proofs.Common.{List, length, ap, sym, ◌∙◌, arith}
use Rattle.flow_send.specs.declared.waiting.Waiting.{Waiting}
use Rattle.flow_send.specs.Sender.{message_at, without_message}
use Rattle.flow_send.specs.Slots.{slot_of, waiting_in}
use Rattle.flow_send.proofs.Slotting.{there, leaves_at, line_left, fewer}
use Rattle.flow_send.proofs.Walking.{none_removed}
use Rattle.flow_send.proofs.messages.Messages.remove.Goals as goal

pub returns-in_default-clause-rest : goal.returns-in_default-clause-rest
returns-in_default-clause-rest c = sym (none_removed c.args.number c.args.self.now (sym (c.in_default.ensures.message ∙ ap (message_at c.args.number) c.self.view_is)))

pub index_mut-requires : goal.index_mut-requires
index_mut-requires c =
    let slots = c.self.inside.slots in
    let lt = there c.place-at.result slots.items (slot_of c.in-Some.message) c.in-Some.ensures.there in
    omega (arith, lt, slots.ok)

pub invariant_of-self : goal.invariant_of-self
invariant_of-self c =
    let items = c.self.inside.slots.items in
    let w = c.in-Some.message in
    let at = sym c.in-Some.ensures.message in
    let e = ap (λ (ws : List Waiting). length ws) (leaves_at c.place-at.result c.args.number items w c.self.invariant.0.line c.in-Some.ensures.there at) in
    (line_left c.place-at.result items w c.in-Some.ensures.there c.self.invariant.0, omega (arith, e, c.self.invariant.1, fewer c.args.number (waiting_in items) w at))

pub returns-clause-rest : goal.returns-clause-rest
returns-clause-rest c =
    c.tidy.ensures ∙ (leaves_at c.place-at.result c.args.number c.self.inside.slots.items c.in-Some.message c.self.invariant.0.line c.in-Some.ensures.there (sym c.in-Some.ensures.message) ∙ ap (without_message c.args.number) c.self.view_is)
