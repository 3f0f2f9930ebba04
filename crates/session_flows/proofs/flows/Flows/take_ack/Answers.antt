use Rattle.std.proofs.Common.{◌≡◌, ◌<◌, true, Some, None, length, refl, sym, ◌∙◌, subst, rules}
use Rattle.std.specs.Prelude.{slice_get, slice_set}
use Rattle.std.proofs.lemmas.Option.{slice_get_read}
use Rattle.flow_send.specs.Acks.{told, beyond}
use Rattle.flow_send.specs.Flow.{with_sender}
use Rattle.session_core.specs.Closing.{is_held}
use Rattle.session_flows.specs.Keeping.{FlowsState, sending_at}
use Rattle.session_flows.specs.Causes.{ack_cause}
use Rattle.session_flows.specs.Chunks.{heard, session_heard, opened_by}
use Rattle.session_flows.proofs.Kin.{kin, milder}
use Rattle.session_flows.proofs.Milds.{mild_filter}
use Rattle.session_flows.proofs.Settled.{may_change, whole_set}
use Rattle.session_flows.proofs.Calls.{flow_there}
use Rattle.session_flows.proofs.Takes.{ack_taken, no_cause}
use Rattle.session_flows.proofs.Hearing.{heard_put, heard_session, within_sent}
use Rattle.session_flows.proofs.flows.Flows.take_ack.Goals as goal

pub settle-requires : goal.settle-requires
settle-requires c =
    let before : FlowsState = record { sending = c.self.inside.sending.items; taking = c.self.inside.taking.items } in
    let within : c.in-Some.at < length c.self.inside.sending.items = subst (λ (s : FlowsState). c.in-Some.at < length s.sending) (sym c.self.view_is) c.in-Some.ensures.1 in
    let there : sending_at before c.args.flow ≡ Some c.index_mut-sender.result.now = flow_there before c.args.flow c.in-Some.at c.index_mut-sender.result.now c.in-Some.ensures.0 within c.index_mut-sender.ensures.value in
    let at : slice_get before.sending c.in-Some.at ≡ Some c.index_mut-sender.result.now = slice_get_read before.sending (length before.sending) c.in-Some.at c.index_mut-sender.result.now refl within c.index_mut-sender.ensures.value in
    let heard_it : c.take_ack.new.self ≡ with_sender c.index_mut-sender.result.now _ = c.in-Ok.ensures.ok in
    may_change before c.self.inside.kept c.in-Some.at c.flight-before.result c.index_mut-sender.result.now c.take_ack.new.self c.self.invariant at c.flight-before.ensures.bytes (kin heard_it)

pub invariant_of-self-2 : goal.invariant_of-self-2
invariant_of-self-2 c =
    let before : FlowsState = record { sending = c.self.inside.sending.items; taking = c.self.inside.taking.items } in
    let within : c.in-Some.at < length c.self.inside.sending.items = subst (λ (s : FlowsState). c.in-Some.at < length s.sending) (sym c.self.view_is) c.in-Some.ensures.1 in
    let there : sending_at before c.args.flow ≡ Some c.index_mut-sender.result.now = flow_there before c.args.flow c.in-Some.at c.index_mut-sender.result.now c.in-Some.ensures.0 within c.index_mut-sender.ensures.value in
    let at : slice_get before.sending c.in-Some.at ≡ Some c.index_mut-sender.result.now = slice_get_read before.sending (length before.sending) c.in-Some.at c.index_mut-sender.result.now refl within c.index_mut-sender.ensures.value in
    let heard_it : c.take_ack.new.self ≡ with_sender c.index_mut-sender.result.now _ = c.in-Ok.ensures.ok in
    whole_set before c.self.inside.kept c.settle.new.self c.in-Some.at c.flight-before.result c.index_mut-sender.result.now c.take_ack.new.self c.self.invariant at c.flight-before.ensures.bytes (kin heard_it)
    (milder c.index_mut-sender.result.now c.take_ack.new.self _ heard_it (λ b. mild_filter b _ c.index_mut-sender.result.now.sender.waiting)) c.settle.ensures

pub returns-clause-flows : goal.returns-clause-flows
returns-clause-flows c =
    let before : FlowsState = record { sending = c.self.inside.sending.items; taking = c.self.inside.taking.items } in
    let within : c.in-Some.at < length c.self.inside.sending.items = subst (λ (s : FlowsState). c.in-Some.at < length s.sending) (sym c.self.view_is) c.in-Some.ensures.1 in
    let there : sending_at before c.args.flow ≡ Some c.index_mut-sender.result.now = flow_there before c.args.flow c.in-Some.at c.index_mut-sender.result.now c.in-Some.ensures.0 within c.index_mut-sender.ensures.value in
    let after : FlowsState = record { sending = slice_set before.sending c.in-Some.at c.take_ack.new.self; taking = before.taking } in
    subst (λ (s : FlowsState). after ≡ heard s c.args.flow (told c.args.blocks c.args.upto c.args.spans)) c.self.view_is
    (heard_put before c.args.flow c.in-Some.at (told c.args.blocks c.args.upto c.args.spans) c.index_mut-sender.result.now c.take_ack.new.self c.in-Some.ensures.0 there c.in-Ok.ensures.ok)

pub returns-clause-session : goal.returns-clause-session
returns-clause-session c =
    let before : FlowsState = record { sending = c.self.inside.sending.items; taking = c.self.inside.taking.items } in
    let within : c.in-Some.at < length c.self.inside.sending.items = subst (λ (s : FlowsState). c.in-Some.at < length s.sending) (sym c.self.view_is) c.in-Some.ensures.1 in
    let there : sending_at before c.args.flow ≡ Some c.index_mut-sender.result.now = flow_there before c.args.flow c.in-Some.at c.index_mut-sender.result.now c.in-Some.ensures.0 within c.index_mut-sender.ensures.value in
    let opened : c.tell.new.session ≡ opened_by c.args.session.now (told c.args.blocks c.args.upto c.args.spans) (Some c.index_mut-sender.result.now) = search rules in
    subst (λ (s : FlowsState). c.tell.new.session ≡ session_heard c.args.session.now s c.args.flow (told c.args.blocks c.args.upto c.args.spans)) c.self.view_is
    (opened ∙ heard_session c.args.session.now before c.args.flow (told c.args.blocks c.args.upto c.args.spans) c.index_mut-sender.result.now there)

pub returns-clause-cause : goal.returns-clause-cause
returns-clause-cause c =
    let before : FlowsState = record { sending = c.self.inside.sending.items; taking = c.self.inside.taking.items } in
    let within : c.in-Some.at < length c.self.inside.sending.items = subst (λ (s : FlowsState). c.in-Some.at < length s.sending) (sym c.self.view_is) c.in-Some.ensures.1 in
    let there : sending_at before c.args.flow ≡ Some c.index_mut-sender.result.now = flow_there before c.args.flow c.in-Some.at c.index_mut-sender.result.now c.in-Some.ensures.0 within c.index_mut-sender.ensures.value in
    let held : is_held c.args.session.now.stage ≡ true = search rules in
    let none : beyond c.index_mut-sender.result.now.sender (told c.args.blocks c.args.upto c.args.spans) ≡ None = within_sent (beyond c.index_mut-sender.result.now.sender (told c.args.blocks c.args.upto c.args.spans)) c.take_ack.result c.in-Ok.acked c.take_ack.ensures.beyond c.in-Ok.is in
    no_cause (ack_cause c.args.session.now c.args.self.now c.args.flow (told c.args.blocks c.args.upto c.args.spans)) _ _
    (subst (λ (s : FlowsState). ack_cause c.args.session.now s c.args.flow (told c.args.blocks c.args.upto c.args.spans) ≡ None) c.self.view_is (ack_taken c.args.session.now before c.args.flow (told c.args.blocks c.args.upto c.args.spans) c.index_mut-sender.result.now held there none)) refl
