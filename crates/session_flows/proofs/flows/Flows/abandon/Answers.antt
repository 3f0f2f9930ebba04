use Rattle.std.proofs.Common.{◌≡◌, ◌<◌, [], ◌∷◌, Some, Result, Ok, Err, MatchOption, length, refl, sym, subst}
use Rattle.std.specs.Prelude.{slice_get, slice_set}
use Rattle.std.proofs.lemmas.Option.{slice_get_read}
use Rattle.session_flows.specs.declared.refusal.CallRefusal.{CallRefusal}
use Rattle.session_flows.specs.Keeping.{FlowsState, sending_at, Abandoned}
use Rattle.session_flows.specs.Calling.{abandoning, abandon_refused}
use Rattle.session_flows.proofs.Kin.{kin, milder}
use Rattle.session_flows.proofs.Milds.{mild_abandoned}
use Rattle.session_flows.proofs.Settled.{may_change, whole_set}
use Rattle.session_flows.proofs.Calls.{did, flow_there, if_ok, abandon_did, abandon_refuses}
use Rattle.session_flows.proofs.flows.Flows.abandon.Goals as goal

pub settle-requires : goal.settle-requires
settle-requires c =
    let before : FlowsState = record { sending = c.self.inside.sending.items; taking = c.self.inside.taking.items } in
    let within : c.in-Some.at < length c.self.inside.sending.items = subst (λ (s : FlowsState). c.in-Some.at < length s.sending) (sym c.self.view_is) c.in-Some.ensures.1 in
    let there : slice_get c.self.inside.sending.items c.in-Some.at ≡ Some c.index_mut-sender.result.now =
    slice_get_read c.self.inside.sending.items (length c.self.inside.sending.items) c.in-Some.at c.index_mut-sender.result.now refl within c.index_mut-sender.ensures.value in
    may_change before c.self.inside.kept c.in-Some.at c.flight-before.result c.index_mut-sender.result.now c.abandon-abandoned.new.self c.self.invariant there c.flight-before.ensures.bytes (kin c.abandon-abandoned.ensures.after)

pub invariant_of-self : goal.invariant_of-self
invariant_of-self c =
    let before : FlowsState = record { sending = c.self.inside.sending.items; taking = c.self.inside.taking.items } in
    let within : c.in-Some.at < length c.self.inside.sending.items = subst (λ (s : FlowsState). c.in-Some.at < length s.sending) (sym c.self.view_is) c.in-Some.ensures.1 in
    let there : slice_get c.self.inside.sending.items c.in-Some.at ≡ Some c.index_mut-sender.result.now =
    slice_get_read c.self.inside.sending.items (length c.self.inside.sending.items) c.in-Some.at c.index_mut-sender.result.now refl within c.index_mut-sender.ensures.value in
    whole_set before c.self.inside.kept c.settle.new.self c.in-Some.at c.flight-before.result c.index_mut-sender.result.now c.abandon-abandoned.new.self c.self.invariant there c.flight-before.ensures.bytes (kin c.abandon-abandoned.ensures.after)
    (milder c.index_mut-sender.result.now c.abandon-abandoned.new.self _ c.abandon-abandoned.ensures.after (λ b. mild_abandoned b c.args.seq c.index_mut-sender.result.now.sender)) c.settle.ensures

pub returns-clause-did : goal.returns-clause-did
returns-clause-did c =
    let before : FlowsState = record { sending = c.self.inside.sending.items; taking = c.self.inside.taking.items } in
    let within : c.in-Some.at < length c.self.inside.sending.items = subst (λ (s : FlowsState). c.in-Some.at < length s.sending) (sym c.self.view_is) c.in-Some.ensures.1 in
    let there : sending_at before c.args.flow ≡ Some c.index_mut-sender.result.now = flow_there before c.args.flow c.in-Some.at c.index_mut-sender.result.now c.in-Some.ensures.0 within c.index_mut-sender.ensures.value in
    let after : FlowsState = record { sending = slice_set c.self.inside.sending.items c.in-Some.at c.abandon-abandoned.new.self; taking = c.self.inside.taking.items } in
    if_ok c.abandon_answer.result (abandoning c.args.self.now c.args.flow c.args.seq ≡ did after (Abandoned c.args.flow c.args.seq ∷ []))
    (subst (λ (s : FlowsState). abandoning s c.args.flow c.args.seq ≡ did after (Abandoned c.args.flow c.args.seq ∷ [])) c.self.view_is
    (abandon_did before c.args.flow c.in-Some.at c.args.seq c.index_mut-sender.result.now c.abandon-abandoned.new.self c.in-Some.ensures.0 there c.abandon-abandoned.ensures.after))

pub returns-clause-refused : goal.returns-clause-refused
returns-clause-refused c =
    let before : FlowsState = record { sending = c.self.inside.sending.items; taking = c.self.inside.taking.items } in
    let within : c.in-Some.at < length c.self.inside.sending.items = subst (λ (s : FlowsState). c.in-Some.at < length s.sending) (sym c.self.view_is) c.in-Some.ensures.1 in
    let there : sending_at before c.args.flow ≡ Some c.index_mut-sender.result.now = flow_there before c.args.flow c.in-Some.at c.index_mut-sender.result.now c.in-Some.ensures.0 within c.index_mut-sender.ensures.value in
    subst (λ (s : FlowsState). MatchOption (abandon_refused s c.args.flow c.args.seq) (c.abandon_answer.result ≡ Ok tt) (λ e. c.abandon_answer.result ≡ Err e)) c.self.view_is
    (subst (λ (r : Result (Unit {0}) CallRefusal). MatchOption (abandon_refused before c.args.flow c.args.seq) (r ≡ Ok tt) (λ e. r ≡ Err e)) (sym c.abandon_answer.ensures)
    (abandon_refuses before c.args.flow c.args.seq c.index_mut-sender.result.now c.abandon-abandoned.result there c.abandon-abandoned.ensures.queued))
