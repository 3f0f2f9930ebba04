use Rattle.std.proofs.Common.{List, Some, None, subst}
use Rattle.flow_send.specs.declared.waiting.Waiting.{Waiting}
use Rattle.flow_send.specs.Messages.{Reaches}
use Rattle.flow_send.proofs.Slotting.{reach_start}
use Rattle.flow_send.proofs.messages.Messages.reaching.Goals as goal

pub returns-in-Some : goal.returns-in-Some
returns-in-Some c =
    subst (λ (ws : List Waiting). Reaches c.args.low ws (Some c.in-Some.message.number)) c.self.view_is
    (reach_start c.args.low c.place-place.result c.start.result c.self.inside.slots.items (Some c.in-Some.message) c.self.invariant.0.line c.place-place.ensures c.start.ensures c.in-Some.ensures)

pub returns-in-None : goal.returns-in-None
returns-in-None c =
    subst (λ (ws : List Waiting). Reaches c.args.low ws None) c.self.view_is
    (reach_start c.args.low c.place-place.result c.start.result c.self.inside.slots.items None c.self.invariant.0.line c.place-place.ensures c.start.ensures c.in-None.ensures)
