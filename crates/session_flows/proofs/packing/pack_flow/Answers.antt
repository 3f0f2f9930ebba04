use Rattle.std.proofs.Common.{ap, ◌∙◌, arith}
use Rattle.flow_send.specs.Choice.{chunk_for}
use Rattle.session_flows.specs.Packing.{chosen}
use Rattle.flow_send.specs.Flow.{Flow}
use Rattle.session_flows.proofs.Falling.{none_refuses}
use Rattle.session_flows.proofs.Waits.{sent_waits}
use Rattle.session_flows.proofs.packing.pack_flow.Goals as goal

pub returns-in_default-clause-due : goal.returns-in_default-clause-due
returns-in_default-clause-due c may few within =
    absurd (none_refuses c.offers.result c.in_default.field-0 c.args.sender.now _ _ c.args.flight c.args.pace.window (chosen c.args.pace c.args.sender.now) (chunk_for c.args.sender.now.sender (chosen c.args.pace c.args.sender.now)) may within
    c.in_default.is (c.offers.ensures.fits (omega (arith, few, c.room.ensures))) c.offers.ensures.refused)

pub returns-clause-waits : goal.returns-clause-waits
returns-clause-waits c = ap (λ (f : Flow). f.sender.waiting) c.send.ensures.sent ∙ sent_waits c.args.pace.moment _ c.args.sender.now.sender
