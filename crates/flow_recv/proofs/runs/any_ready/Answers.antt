use Rattle.std.proofs.Common.{Bool, ap, sym, ◌∙◌}
use Rattle.std.specs.Option.{is_some}
use Rattle.flow_recv.specs.Receiver.{hands, first_of}
use Rattle.flow_recv.proofs.Ready.{nothing_ready, ready_one}
use Rattle.flow_recv.proofs.runs.any_ready.Goals as goal

pub returns-in-Some : goal.returns-in-Some
returns-in-Some c =
    c.is_ready_at.ensures ∙ (ready_one c.args.through c.in-Some.first c.args.runs.now c.requires.order c.requires.open c.in-Some.ensures
    ∙ ap (λ (a : Bool). is_some (first_of (hands a c.args.through) c.args.runs.now)) (sym c.if-arriving.false))

pub returns-in-None : goal.returns-in-None
returns-in-None c = ap is_some (nothing_ready (hands c.args.arriving c.args.through) c.args.runs.now c.in-None.ensures).0
