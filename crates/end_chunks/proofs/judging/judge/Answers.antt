use Rattle.std.proofs.Common.{◌≡◌, Err, IfErr, IfOk, None, Ok, Option, Result, Some, subst}
use Rattle.rtmfp_forms.specs.Address.{AddressParts}
use Rattle.rtmfp_base.specs.declared.cause.Cause.{Cause}
use Rattle.rtmfp_packet.specs.Chunks.{shown}
use Rattle.endpoint_model.specs.declared.config.Draws.{Draws}
use Rattle.endpoint_model.specs.Admission.{sid_at}
use Rattle.endpoint_model.specs.Effects.{responder_keyed}
use Rattle.endpoint_model.specs.State.{Did}
use Rattle.end_chunks.specs.declared.judging.Verdict.{Verdict}
use Rattle.end_chunks.specs.Judging.{Stands}
use Rattle.end_chunks.proofs.Ways.{fields_cause, fields_do, initiator_busy, initiator_cause, initiator_does, responder_busy, responder_cause, responder_does}
use Rattle.end_chunks.proofs.judging.judge.Goals as goal

-- what is so wherever a chunk came from
from_there : (r : Result Verdict Cause) (Q : AddressParts → Verdict → Type 0) (from : AddressParts) → IfOk r (λ verdict. (other : AddressParts) → Q other verdict) → IfOk r (Q from)
from_there (Ok verdict) Q from each = each from
from_there (Err cause) Q from each = tt

pub returns-in-InitiatorKeying-clause-ok : goal.returns-in-InitiatorKeying-clause-ok
returns-in-InitiatorKeying-clause-ok c =
    subst (λ (does : Draws → Did). IfOk c.judge_initiator.result (Stands c.args.end.now c.args.place c.args.from.now does))
    (initiator_does c.args.end.now c.args.place c.args.walk.now c.args.from.now (shown c.args.chunk.now) c.args.kind.now c.requires.row c.requires.kind c.in-InitiatorKeying.is) c.judge_initiator.ensures.ok

pub returns-in-InitiatorKeying-clause-none : goal.returns-in-InitiatorKeying-clause-none
returns-in-InitiatorKeying-clause-none c =
    subst (λ (o : Option Cause). IfOk c.judge_initiator.result (λ _. o ≡ None)) (initiator_cause c.args.end.now c.args.place c.args.walk.now c.args.from.now (shown c.args.chunk.now) c.args.kind.now c.requires.row c.requires.kind c.in-InitiatorKeying.is) c.judge_initiator.ensures.none

pub returns-in-InitiatorKeying-clause-refused : goal.returns-in-InitiatorKeying-clause-refused
returns-in-InitiatorKeying-clause-refused c =
    subst (λ (o : Option Cause). IfErr c.judge_initiator.result (λ cause. o ≡ Some cause)) (initiator_cause c.args.end.now c.args.place c.args.walk.now c.args.from.now (shown c.args.chunk.now) c.args.kind.now c.requires.row c.requires.kind c.in-InitiatorKeying.is) c.judge_initiator.ensures.refused

pub returns-in-InitiatorKeying-clause-quiet : goal.returns-in-InitiatorKeying-clause-quiet
returns-in-InitiatorKeying-clause-quiet c idle = absurd (initiator_busy c.args.end.now c.args.place c.args.walk.now c.args.from.now (shown c.args.chunk.now) c.args.kind.now c.requires.row c.requires.kind c.in-InitiatorKeying.is idle)

pub returns-in-ResponderKeying-clause-ok : goal.returns-in-ResponderKeying-clause-ok
returns-in-ResponderKeying-clause-ok c =
    let does : AddressParts → Draws → Did = λ other draws. responder_keyed c.args.end.now (sid_at c.args.place) other c.args.chunk.now.payload.now in
    subst (λ (does : Draws → Did). IfOk c.judge_responder.result (Stands c.args.end.now c.args.place c.args.from.now does))
    (responder_does c.args.end.now c.args.place c.args.walk.now c.args.from.now (shown c.args.chunk.now) c.args.kind.now c.requires.row c.requires.kind c.in-ResponderKeying.is)
    (from_there c.judge_responder.result (λ other. Stands c.args.end.now c.args.place other (does other)) c.args.from.now c.judge_responder.ensures.ok)

pub returns-in-ResponderKeying-clause-none : goal.returns-in-ResponderKeying-clause-none
returns-in-ResponderKeying-clause-none c =
    subst (λ (o : Option Cause). IfOk c.judge_responder.result (λ _. o ≡ None)) (responder_cause c.args.end.now c.args.place c.args.walk.now c.args.from.now (shown c.args.chunk.now) c.args.kind.now c.requires.row c.requires.kind c.in-ResponderKeying.is) c.judge_responder.ensures.none

pub returns-in-ResponderKeying-clause-refused : goal.returns-in-ResponderKeying-clause-refused
returns-in-ResponderKeying-clause-refused c =
    subst (λ (o : Option Cause). IfErr c.judge_responder.result (λ cause. o ≡ Some cause)) (responder_cause c.args.end.now c.args.place c.args.walk.now c.args.from.now (shown c.args.chunk.now) c.args.kind.now c.requires.row c.requires.kind c.in-ResponderKeying.is) c.judge_responder.ensures.refused

pub returns-in-ResponderKeying-clause-quiet : goal.returns-in-ResponderKeying-clause-quiet
returns-in-ResponderKeying-clause-quiet c idle = absurd (responder_busy c.args.end.now c.args.place c.args.walk.now c.args.from.now (shown c.args.chunk.now) c.args.kind.now c.requires.row c.requires.kind c.in-ResponderKeying.is idle)

pub returns-in-Fields-clause-ok : goal.returns-in-Fields-clause-ok
returns-in-Fields-clause-ok c =
    subst (λ (does : Draws → Did). IfOk c.judge_fields.result (Stands c.args.end.now c.args.place c.args.from.now does))
    (fields_do c.args.end.now c.args.place c.args.walk.now c.args.from.now (shown c.args.chunk.now) c.args.kind.now c.requires.row c.requires.kind c.in-Fields.is) c.judge_fields.ensures.ok

pub returns-in-Fields-clause-none : goal.returns-in-Fields-clause-none
returns-in-Fields-clause-none c =
    subst (λ (o : Option Cause). IfOk c.judge_fields.result (λ _. o ≡ None)) (fields_cause c.args.end.now c.args.place c.args.walk.now c.args.from.now (shown c.args.chunk.now) c.args.kind.now c.requires.row c.requires.kind c.in-Fields.is) c.judge_fields.ensures.none

pub returns-in-Fields-clause-refused : goal.returns-in-Fields-clause-refused
returns-in-Fields-clause-refused c =
    subst (λ (o : Option Cause). IfErr c.judge_fields.result (λ cause. o ≡ Some cause)) (fields_cause c.args.end.now c.args.place c.args.walk.now c.args.from.now (shown c.args.chunk.now) c.args.kind.now c.requires.row c.requires.kind c.in-Fields.is) c.judge_fields.ensures.refused
