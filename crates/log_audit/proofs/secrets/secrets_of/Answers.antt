use Rattle.std.proofs.Common.{arith}
use Rattle.log_values.specs.Events.{event_of}
use Rattle.log_audit.proofs.Learning.{learnt_more, learnt_next}
use Rattle.log_audit.proofs.secrets.secrets_of.Goals as goal

pub next_event-event-requires-clause-end : goal.next_event-event-requires-clause-end
next_event-event-requires-clause-end c =
    (learnt_next c.args.logs.now c.args.order.now c.requires c.loop-rest.rest.now c.loop-rest.seen.items c.loop-rest.secrets c.in-len1-up.len_at_least c.loop-rest.invariant).end

pub next_event-event-requires-clause-there : goal.next_event-event-requires-clause-there
next_event-event-requires-clause-there c =
    (learnt_next c.args.logs.now c.args.order.now c.requires c.loop-rest.rest.now c.loop-rest.seen.items c.loop-rest.secrets c.in-len1-up.len_at_least c.loop-rest.invariant).there

pub next_event-event-requires-clause-room : goal.next_event-event-requires-clause-room
next_event-event-requires-clause-room c =
    let next = learnt_next c.args.logs.now c.args.order.now c.requires c.loop-rest.rest.now c.loop-rest.seen.items c.loop-rest.secrets c.in-len1-up.len_at_least c.loop-rest.invariant in
    omega (arith, next.few)

pub loop-rest-preserved : goal.loop-rest-preserved
loop-rest-preserved c =
    learnt_more c.args.logs.now c.args.order.now c.requires c.loop-rest.rest.now c.loop-rest.seen.items c.next_event-event.new.seen.items c.loop-rest.secrets c.add_learnt.new.secrets
    (event_of c.next_event-event.result.now) c.in-len1-up.len_at_least c.loop-rest.invariant c.next_event-event.ensures.seen c.next_event-event.ensures.event c.in_ok-add_learnt.ensures
