use Rattle.std.proofs.Common.{◌≡◌, ℕ, ◌<◌, [], ◌∷◌, Some, Result, Err, MatchOption, length, refl, sym, subst}
use Rattle.std.specs.Prelude.{slice_get, slice_set, IfOk, IsOk}
use Rattle.std.proofs.lemmas.Option.{slice_get_read}
use Rattle.session_flows.specs.declared.refusal.CallRefusal.{CallRefusal}
use Rattle.session_flows.specs.Keeping.{FlowsState, sending_at, Finished}
use Rattle.session_flows.specs.Calling.{finishing, finish_refused}
use Rattle.session_flows.proofs.Kin.{kin, milder}
use Rattle.session_flows.proofs.Milds.{mild_finish}
use Rattle.session_flows.proofs.Settled.{may_change, whole_set}
use Rattle.session_flows.proofs.Calls.{did, flow_there, finish_did, finish_refuses}
use Rattle.session_flows.proofs.flows.Flows.finish.Goals as goal

pub settle-requires : goal.settle-requires
settle-requires c =
    let before : FlowsState = record { sending = c.self.inside.sending.items; taking = c.self.inside.taking.items } in
    let within : c.in-Some.at < length c.self.inside.sending.items = subst (λ (s : FlowsState). c.in-Some.at < length s.sending) (sym c.self.view_is) c.in-Some.ensures.1 in
    let there : slice_get c.self.inside.sending.items c.in-Some.at ≡ Some c.index_mut-sender.result.now =
    slice_get_read c.self.inside.sending.items (length c.self.inside.sending.items) c.in-Some.at c.index_mut-sender.result.now refl within c.index_mut-sender.ensures.value in
    may_change before c.self.inside.kept c.in-Some.at c.flight-before.result c.index_mut-sender.result.now c.finish-last.new.self c.self.invariant there c.flight-before.ensures.bytes (kin c.finish-last.ensures.after)

pub invariant_of-self : goal.invariant_of-self
invariant_of-self c =
    let before : FlowsState = record { sending = c.self.inside.sending.items; taking = c.self.inside.taking.items } in
    let within : c.in-Some.at < length c.self.inside.sending.items = subst (λ (s : FlowsState). c.in-Some.at < length s.sending) (sym c.self.view_is) c.in-Some.ensures.1 in
    let there : slice_get c.self.inside.sending.items c.in-Some.at ≡ Some c.index_mut-sender.result.now =
    slice_get_read c.self.inside.sending.items (length c.self.inside.sending.items) c.in-Some.at c.index_mut-sender.result.now refl within c.index_mut-sender.ensures.value in
    whole_set before c.self.inside.kept c.settle.new.self c.in-Some.at c.flight-before.result c.index_mut-sender.result.now c.finish-last.new.self c.self.invariant there c.flight-before.ensures.bytes (kin c.finish-last.ensures.after)
    (milder c.index_mut-sender.result.now c.finish-last.new.self _ c.finish-last.ensures.after (λ b. mild_finish b _ c.index_mut-sender.result.now.sender)) c.settle.ensures

pub returns-clause-did : goal.returns-clause-did
returns-clause-did c =
    let before : FlowsState = record { sending = c.self.inside.sending.items; taking = c.self.inside.taking.items } in
    let within : c.in-Some.at < length c.self.inside.sending.items = subst (λ (s : FlowsState). c.in-Some.at < length s.sending) (sym c.self.view_is) c.in-Some.ensures.1 in
    let there : sending_at before c.args.flow ≡ Some c.index_mut-sender.result.now = flow_there before c.args.flow c.in-Some.at c.index_mut-sender.result.now c.in-Some.ensures.0 within c.index_mut-sender.ensures.value in
    let after : FlowsState = record { sending = slice_set c.self.inside.sending.items c.in-Some.at c.finish-last.new.self; taking = c.self.inside.taking.items } in
    subst (λ (s : FlowsState). IfOk c.finish_answer.result (λ seq. finishing s c.args.flow ≡ did after (Finished c.args.flow seq ∷ []))) c.self.view_is
    (subst (λ (r : Result ℕ CallRefusal). IfOk r (λ seq. finishing before c.args.flow ≡ did after (Finished c.args.flow seq ∷ []))) (sym c.finish_answer.ensures)
    (finish_did before c.args.flow c.in-Some.at c.index_mut-sender.result.now c.finish-last.new.self c.finish-last.result c.in-Some.ensures.0 there c.finish-last.ensures.last c.finish-last.ensures.after))

pub returns-clause-refused : goal.returns-clause-refused
returns-clause-refused c =
    let before : FlowsState = record { sending = c.self.inside.sending.items; taking = c.self.inside.taking.items } in
    let within : c.in-Some.at < length c.self.inside.sending.items = subst (λ (s : FlowsState). c.in-Some.at < length s.sending) (sym c.self.view_is) c.in-Some.ensures.1 in
    let there : sending_at before c.args.flow ≡ Some c.index_mut-sender.result.now = flow_there before c.args.flow c.in-Some.at c.index_mut-sender.result.now c.in-Some.ensures.0 within c.index_mut-sender.ensures.value in
    subst (λ (s : FlowsState). MatchOption (finish_refused s c.args.flow) (IsOk c.finish_answer.result) (λ e. c.finish_answer.result ≡ Err e)) c.self.view_is
    (subst (λ (r : Result ℕ CallRefusal). MatchOption (finish_refused before c.args.flow) (IsOk r) (λ e. r ≡ Err e)) (sym c.finish_answer.ensures)
    (finish_refuses before c.args.flow c.index_mut-sender.result.now c.finish-last.result there c.finish-last.ensures.last))
