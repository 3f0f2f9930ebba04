use Rattle.std.proofs.Common.{List, Some, None, subst}
use Rattle.flow_send.specs.declared.waiting.Waiting.{Waiting}
use Rattle.flow_send.specs.Messages.{IsFirstFrom}
use Rattle.flow_send.proofs.Slotting.{first_from}
use Rattle.flow_send.proofs.messages.Messages.from.Goals as goal

pub returns-in-Some : goal.returns-in-Some
returns-in-Some c =
    subst (λ (ws : List Waiting). IsFirstFrom c.args.number ws (Some c.in-Some.message.number)) c.self.view_is
    (first_from c.args.number c.place.result c.self.inside.slots.items (Some c.in-Some.message) c.self.invariant.0.line c.place.ensures c.in-Some.ensures)

pub returns-in-None : goal.returns-in-None
returns-in-None c =
    subst (λ (ws : List Waiting). IsFirstFrom c.args.number ws None) c.self.view_is
    (first_from c.args.number c.place.result c.self.inside.slots.items None c.self.invariant.0.line c.place.ensures c.in-None.ensures)
