use Rattle.std.proofs.Common.{sym, ap, ◌∙◌, rules}
use Rattle.startup_packets.specs.Readings.{InitiatorKeying}
use Rattle.startup_packets.specs.Read.{initiator_of, initiator_read}
use Rattle.startup.specs.Judging.{judged_initiator}
use Rattle.endpoint_model.specs.Causes.{takes_in}
use Rattle.end_chunks.proofs.Reasons.{judged_none, judged_some}
use Rattle.end_chunks.proofs.judging.judge_initiator.Goals as goal

pub returns-in-Ok-judge_initiator_keying-clause-none :
    goal.returns-in-Ok-judge_initiator_keying-clause-none
returns-in-Ok-judge_initiator_keying-clause-none c =
    let read : InitiatorKeying = initiator_of c.in-Ok.fields in
    let under = c.group_at-group.ensures in
    judged_none c.args.end.now c.args.place c.args.walk.now c.args.from.now c.args.payload.now read c.in-Ok-judge_initiator_keying.hearing
    (ap (takes_in c.args.place c.args.walk.now) (sym c.requires.kind) ∙ sym c.takes_in.ensures ∙ c.if-not-takes_in.false) c.if-walk.false (sym c.read_initiator_keying.ensures.fields ∙ ap initiator_read c.in-Ok.is)
    (sym (c.judge_initiator_keying.ensures ∙ (λ i. judged_initiator (c.end.view_is i).startup (c.in-Ok.ensures.payload i) c.args.from.now (c.end.view_is i).moment (c.full.ensures i) (under i) read))
    ∙ c.in-Ok-judge_initiator_keying.is)

pub returns-in-Err-judge_initiator_keying-clause-refused :
    goal.returns-in-Err-judge_initiator_keying-clause-refused
returns-in-Err-judge_initiator_keying-clause-refused c =
    let read : InitiatorKeying = initiator_of c.in-Ok.fields in
    let under = c.group_at-group.ensures in
    judged_some c.args.end.now c.args.place c.args.walk.now c.args.from.now c.args.payload.now read c.in-Err-judge_initiator_keying.cause
    (ap (takes_in c.args.place c.args.walk.now) (sym c.requires.kind) ∙ sym c.takes_in.ensures ∙ c.if-not-takes_in.false) c.if-walk.false (sym c.read_initiator_keying.ensures.fields ∙ ap initiator_read c.in-Ok.is)
    (sym (c.judge_initiator_keying.ensures ∙ (λ i. judged_initiator (c.end.view_is i).startup (c.in-Ok.ensures.payload i) c.args.from.now (c.end.view_is i).moment (c.full.ensures i) (under i) read))
    ∙ c.in-Err-judge_initiator_keying.is)

-- so that a wrong body is refused fast
pub returns-then-walk-clause-refused : goal.returns-then-walk-clause-refused
returns-then-walk-clause-refused c = search rules
