use Rattle.std.proofs.Common.{subst}
use Rattle.endpoint_model.specs.declared.config.Draws.{Draws}
use Rattle.endpoint.specs.Calls.{Called}
use Rattle.rendezvous_world.specs.Deed.{deed_of}
use Rattle.rendezvous_world.specs.Entering.{made_by}
use Rattle.rendezvous_world.specs.Line.{refused_kept, stopped_kept}
use Rattle.rendezvous_world.proofs.Answered.{called_event, called_may, called_left, brought, within_by}
use Rattle.rendezvous_world.proofs.calls.call_end.Goals as goal

pub make-requires : goal.make-requires
make-requires c = within_by c.in-Call.field-0 c.in-Call.call (deed_of c.args.step.now) c.in-Call.ensures c.requires.limits

pub returns-in-Call-clause-event : goal.returns-in-Call-clause-event
returns-in-Call-clause-event c =
    called_event c.args.endpoint.now c.make.new.endpoint c.in-Call.field-0 c.args.line c.args.moment c.in-Call.call c.args.given.now c.args.bytes.now c.args.step.now c.make.result c.args.out.now c.make.new.out
    (refused_kept c.outcome_of.result.answer) (stopped_kept c.outcome_of.result.answer)
    (record {
      is = c.in-Call.ensures;
      empty = c.requires.empty;
      called = subst (λ (d : Draws). Called c.args.endpoint.now c.args.moment (made_by c.in-Call.call c.args.given.now d) c.make.result c.make.new.endpoint c.args.out.now c.make.new.out) c.draws_of-draws.ensures c.make.ensures;
    })
    c.outcome_of.ensures.refused c.outcome_of.ensures.stopped

pub returns-in-Call-clause-answer : goal.returns-in-Call-clause-answer
returns-in-Call-clause-answer c = λ e.
    called_may c.args.endpoint.now c.make.new.endpoint c.in-Call.field-0 c.args.line c.args.moment c.in-Call.call c.args.given.now c.args.step.now c.make.result c.args.out.now c.make.new.out
    (refused_kept c.outcome_of.result.answer) (stopped_kept c.outcome_of.result.answer)
    (record {
      is = c.in-Call.ensures;
      empty = c.requires.empty;
      called = subst (λ (d : Draws). Called c.args.endpoint.now c.args.moment (made_by c.in-Call.call c.args.given.now d) c.make.result c.make.new.endpoint c.args.out.now c.make.new.out) c.draws_of-draws.ensures c.make.ensures;
    })
    c.outcome_of.ensures.refused c.outcome_of.ensures.stopped (c.outcome_of.ensures.done e)

pub returns-in-Call-clause-undone : goal.returns-in-Call-clause-undone
returns-in-Call-clause-undone c = λ e.
    called_left c.args.endpoint.now c.make.new.endpoint c.in-Call.field-0 c.args.line c.args.moment c.in-Call.call c.args.given.now c.args.step.now c.make.result c.args.out.now c.make.new.out
    (record {
      is = c.in-Call.ensures;
      empty = c.requires.empty;
      called = subst (λ (d : Draws). Called c.args.endpoint.now c.args.moment (made_by c.in-Call.call c.args.given.now d) c.make.result c.make.new.endpoint c.args.out.now c.make.new.out) c.draws_of-draws.ensures c.make.ensures;
    })
    (c.outcome_of.ensures.undone e)

pub returns-in-Bring-clause-event : goal.returns-in-Bring-clause-event
returns-in-Bring-clause-event c =
    brought c.args.endpoint.now c.receive.new.endpoint c.args.given.now c.args.line c.args.moment c.args.step.now c.in-Bring.field-0 c.in-Bring.from.now c.in-Bring.field-2 c.args.bytes.now c.draws_of-draws.result
    (refused_kept c.receive.result.answer) (stopped_kept c.receive.result.answer) c.receive.new.out.entries c.in-Bring.ensures c.draws_of-draws.ensures c.receive.ensures.event
