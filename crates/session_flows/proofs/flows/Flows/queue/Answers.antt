use Rattle.std.proofs.Common.{◌≡◌, ℕ, ◌<◌, [], ◌∷◌, Some, Result, Ok, Err, MatchOption, length, refl, sym, ap, ◌∙◌, subst}
use Rattle.std.specs.Prelude.{slice_get, slice_set, IfOk, IfErr, OnErr}
use Rattle.std.proofs.lemmas.Option.{slice_get_read}
use Rattle.session_flows.specs.declared.refusal.CallRefusal.{CallRefusal}
use Rattle.session_flows.specs.declared.refusal.CallRefusal.TheVariants as refusal
use Rattle.flow_send.specs.declared.outcome.QueueRefusal.{QueueRefusal}
use Rattle.flow_send.specs.Flow.{Flow, next_message}
use Rattle.session_flows.specs.declared.kept.Kept.{Kept}
use Rattle.session_flows.specs.Kept.{IsWhole, IsChanged}
use Rattle.session_flows.specs.Keeping.{FlowsState, sending_at, with_sending, Queued}
use Rattle.session_flows.specs.Calling.{queueing, queue_answer, queue_refused}
use Rattle.session_flows.proofs.Kin.{either}
use Rattle.session_flows.proofs.Packs.{set_back}
use Rattle.session_flows.proofs.Settled.{may_change, whole_noted, whole_queued}
use Rattle.session_flows.proofs.Calls.{did, flow_there, queue_did, queue_refuses}
use Rattle.session_flows.proofs.flows.Flows.queue.Goals as goal

pub settle-requires : goal.settle-requires
settle-requires c =
    let before : FlowsState = record { sending = c.self.inside.sending.items; taking = c.self.inside.taking.items } in
    let within : c.in-Some.at < length c.self.inside.sending.items = subst (λ (s : FlowsState). c.in-Some.at < length s.sending) (sym c.self.view_is) c.in-Some.ensures.1 in
    let there : slice_get c.self.inside.sending.items c.in-Some.at ≡ Some c.index_mut-sender.result.now =
    slice_get_read c.self.inside.sending.items (length c.self.inside.sending.items) c.in-Some.at c.index_mut-sender.result.now refl within c.index_mut-sender.ensures.value in
    let noted_so : IsWhole before c.note.new.self = subst (λ (k : Kept). IsWhole before k) (sym c.note.ensures) (whole_noted before c.args.options c.self.inside.kept c.self.invariant) in
    may_change before c.note.new.self c.in-Some.at c.flight-before.result c.index_mut-sender.result.now c.queue-queued.new.self noted_so there c.flight-before.ensures.bytes
    (either c.queue-queued.result c.index_mut-sender.result.now c.queue-queued.new.self _ c.queue-queued.ensures.queued c.queue-queued.ensures.err)

pub invariant_of-self : goal.invariant_of-self
invariant_of-self c =
    let before : FlowsState = record { sending = c.self.inside.sending.items; taking = c.self.inside.taking.items } in
    let within : c.in-Some.at < length c.self.inside.sending.items = subst (λ (s : FlowsState). c.in-Some.at < length s.sending) (sym c.self.view_is) c.in-Some.ensures.1 in
    let there : slice_get c.self.inside.sending.items c.in-Some.at ≡ Some c.index_mut-sender.result.now =
    slice_get_read c.self.inside.sending.items (length c.self.inside.sending.items) c.in-Some.at c.index_mut-sender.result.now refl within c.index_mut-sender.ensures.value in
    whole_queued c.queue-queued.result before c.self.inside.kept c.settle.new.self c.in-Some.at c.flight-before.result (next_message c.index_mut-sender.result.now.sender c.args.message.now) c.args.options c.index_mut-sender.result.now c.queue-queued.new.self c.self.invariant there c.flight-before.ensures.bytes
    c.queue-queued.ensures.queued c.queue-queued.ensures.err (subst (λ (k : Kept). IsChanged k c.flight-before.result c.queue-queued.new.self c.settle.new.self) c.note.ensures c.settle.ensures)

pub returns-clause-did : goal.returns-clause-did
returns-clause-did c =
    let before : FlowsState = record { sending = c.self.inside.sending.items; taking = c.self.inside.taking.items } in
    let within : c.in-Some.at < length c.self.inside.sending.items = subst (λ (s : FlowsState). c.in-Some.at < length s.sending) (sym c.self.view_is) c.in-Some.ensures.1 in
    let there : sending_at before c.args.flow ≡ Some c.index_mut-sender.result.now = flow_there before c.args.flow c.in-Some.at c.index_mut-sender.result.now c.in-Some.ensures.0 within c.index_mut-sender.ensures.value in
    let after : FlowsState = record { sending = slice_set c.self.inside.sending.items c.in-Some.at c.queue-queued.new.self; taking = c.self.inside.taking.items } in
    subst (λ (s : FlowsState). IfOk c.queue_answer.result (λ seq. queueing s c.args.flow c.args.message.now c.args.options ≡ did after (Queued c.args.flow seq c.args.message.now ∷ []))) c.self.view_is
    (subst (λ (r : Result ℕ CallRefusal). IfOk r (λ seq. queueing before c.args.flow c.args.message.now c.args.options ≡ did after (Queued c.args.flow seq c.args.message.now ∷ []))) (sym c.queue_answer.ensures)
    (queue_did before c.args.flow c.in-Some.at c.args.message.now c.args.options c.index_mut-sender.result.now c.queue-queued.new.self c.queue-queued.result c.in-Some.ensures.0 there c.queue-queued.ensures.number c.queue-queued.ensures.queued))

pub returns-clause-refused : goal.returns-clause-refused
returns-clause-refused c =
    let before : FlowsState = record { sending = c.self.inside.sending.items; taking = c.self.inside.taking.items } in
    let within : c.in-Some.at < length c.self.inside.sending.items = subst (λ (s : FlowsState). c.in-Some.at < length s.sending) (sym c.self.view_is) c.in-Some.ensures.1 in
    let there : sending_at before c.args.flow ≡ Some c.index_mut-sender.result.now = flow_there before c.args.flow c.in-Some.at c.index_mut-sender.result.now c.in-Some.ensures.0 within c.index_mut-sender.ensures.value in
    subst (λ (s : FlowsState). MatchOption (queue_refused s c.args.flow (length c.args.message.now)) (IfErr c.queue_answer.result (λ e. e ≡ refusal.Memory)) (λ e. c.queue_answer.result ≡ Err e)) c.self.view_is
    (subst (λ (r : Result ℕ CallRefusal). MatchOption (queue_refused before c.args.flow (length c.args.message.now)) (IfErr r (λ e. e ≡ refusal.Memory)) (λ e. r ≡ Err e)) (sym c.queue_answer.ensures)
    (queue_refuses before c.args.flow (length c.args.message.now) c.index_mut-sender.result.now c.queue-queued.result there c.queue-queued.ensures.refused))

-- a refused message leaves the flow, and so the flows
refused_stays : (r : Result ℕ QueueRefusal) (s : FlowsState) (at : ℕ) (f g : Flow) → slice_get s.sending at ≡ Some f → OnErr r (g ≡ f) → OnErr (queue_answer r) (with_sending s (slice_set s.sending at g) ≡ s)
refused_stays (Ok seq) s at f g there err = tt
refused_stays (Err e) s at f g there err = ap (λ (y : Flow). with_sending s (slice_set s.sending at y)) err ∙ ap (with_sending s) (set_back s.sending at f there)

pub returns-clause-err : goal.returns-clause-err
returns-clause-err c =
    let before : FlowsState = record { sending = c.self.inside.sending.items; taking = c.self.inside.taking.items } in
    let within : c.in-Some.at < length c.self.inside.sending.items = subst (λ (s : FlowsState). c.in-Some.at < length s.sending) (sym c.self.view_is) c.in-Some.ensures.1 in
    let there : slice_get c.self.inside.sending.items c.in-Some.at ≡ Some c.index_mut-sender.result.now =
    slice_get_read c.self.inside.sending.items (length c.self.inside.sending.items) c.in-Some.at c.index_mut-sender.result.now refl within c.index_mut-sender.ensures.value in
    let after : FlowsState = record { sending = slice_set c.self.inside.sending.items c.in-Some.at c.queue-queued.new.self; taking = c.self.inside.taking.items } in
    subst (λ (s : FlowsState). OnErr c.queue_answer.result (after ≡ s)) c.self.view_is
    (subst (λ (r : Result ℕ CallRefusal). OnErr r (after ≡ before)) (sym c.queue_answer.ensures)
    (refused_stays c.queue-queued.result before c.in-Some.at c.index_mut-sender.result.now c.queue-queued.new.self there c.queue-queued.ensures.err))
