use Rattle.std.proofs.Common.{◌≡◌, ◌+◌, ℕ, ◌==◌, Option, Some, None, OnOk, IfOk, IfErr, length, refl, sym, ap, ◌∙◌, subst, rules}
use Rattle.std.specs.Prelude.{slice_get}
use Rattle.std.specs.Option.{option_map, unwrap_or}
use Rattle.std.proofs.lemmas.Option.{slice_get_read}
use Rattle.rtmfp_data_chunks.specs.Chunk.{user_parts}
use Rattle.flow_recv.specs.Receiver.{Receiver, fresh}
use Rattle.flow_recv.specs.Outcome.{refusal}
use Rattle.session_flows.specs.declared.taking.TakingFlow.{TakingFlow}
use Rattle.session_flows.specs.Keeping.{FlowsState, in_taking, taking_at}
use Rattle.session_flows.specs.Told.{first_byte}
use Rattle.session_flows.specs.Causes.{metadata_of, order_of, receiver_by, cause_of, piece_of}
use Rattle.session_flows.specs.Handing.{most_by}
use Rattle.session_flows.specs.Places.{index_from, IsAt}
use Rattle.session_flows.proofs.Indexed.{is_at, not_there}
use Rattle.session_flows.proofs.Takes.{at_there, order_by, receiver_new}
use Rattle.session_flows.proofs.flows.Flows.judge_receiver.Goals as goal

-- the flow that is there
found : (c : goal.After-most_or_cause) → taking_at c.args.self.now c.args.chunk.now.flow ≡ Some c.index.result.now
found c =
    let before : FlowsState = record { sending = c.self.inside.sending.items; taking = c.self.inside.taking.items } in
    let place : index_from 0 c.args.chunk.now.flow c.args.self.now.taking ≡ Some c.in-Some.at = sym c.requires.at ∙ c.in-Some.is in
    let at : IsAt c.args.chunk.now.flow before.taking c.in-Some.at = is_at c.args.chunk.now.flow before.taking c.in-Some.at (subst (λ (s : FlowsState). index_from 0 c.args.chunk.now.flow s.taking ≡ Some c.in-Some.at) (sym c.self.view_is) place) in
    let there : slice_get before.taking c.in-Some.at ≡ Some c.index.result.now = slice_get_read before.taking (length before.taking) c.in-Some.at c.index.result.now refl at.within c.index.ensures in
    ap (λ (s : FlowsState). taking_at s c.args.chunk.now.flow) (sym c.self.view_is) ∙ at_there before c.args.chunk.now.flow c.in-Some.at c.index.result.now at there

pub returns-in-Some-clause-none : goal.returns-in-Some-clause-none
returns-in-Some-clause-none c =
    subst (λ (o : Option TakingFlow). OnOk c.most_or_cause.result (cause_of (refusal (receiver_by o (user_parts c.args.chunk.now)) (piece_of (user_parts c.args.chunk.now))) ≡ None)) (sym (found c)) c.most_or_cause.ensures.none

pub returns-in-Some-clause-refused : goal.returns-in-Some-clause-refused
returns-in-Some-clause-refused c =
    subst (λ (o : Option TakingFlow). IfErr c.most_or_cause.result (λ cause. cause_of (refusal (receiver_by o (user_parts c.args.chunk.now)) (piece_of (user_parts c.args.chunk.now))) ≡ Some cause)) (sym (found c)) c.most_or_cause.ensures.refused

pub returns-in-Some-clause-most : goal.returns-in-Some-clause-most
returns-in-Some-clause-most c =
    subst (λ (o : Option TakingFlow). IfOk c.most_or_cause.result (λ most. most ≡ most_by o + 1)) (sym (found c)) c.most_or_cause.ensures.most

pub returns-in-None-clause-none : goal.returns-in-None-clause-none
returns-in-None-clause-none c =
    let none : in_taking c.args.chunk.now.flow c.args.self.now.taking ≡ None = not_there 0 c.args.chunk.now.flow c.args.self.now.taking (sym c.requires.at ∙ c.in-None.is) in
    let first : c.unwrap_or-first.result ≡ unwrap_or (option_map first_byte (metadata_of (user_parts c.args.chunk.now))) 0 = search rules in
    let made : c.new-receiver.result ≡ fresh (order_of (metadata_of (user_parts c.args.chunk.now))) =
    c.new-receiver.ensures ∙ ap (λ (n : ℕ). fresh (n == 97)) first ∙ ap fresh (order_by (metadata_of (user_parts c.args.chunk.now))) in
    subst (λ (r : Receiver). OnOk c.most_or_cause-in-None.result (cause_of (refusal r (piece_of (user_parts c.args.chunk.now))) ≡ None))
    (made ∙ sym (receiver_new c.args.self.now (user_parts c.args.chunk.now) none)) c.most_or_cause-in-None.ensures.none

pub returns-in-None-clause-refused : goal.returns-in-None-clause-refused
returns-in-None-clause-refused c =
    let none : in_taking c.args.chunk.now.flow c.args.self.now.taking ≡ None = not_there 0 c.args.chunk.now.flow c.args.self.now.taking (sym c.requires.at ∙ c.in-None.is) in
    let first : c.unwrap_or-first.result ≡ unwrap_or (option_map first_byte (metadata_of (user_parts c.args.chunk.now))) 0 = search rules in
    let made : c.new-receiver.result ≡ fresh (order_of (metadata_of (user_parts c.args.chunk.now))) =
    c.new-receiver.ensures ∙ ap (λ (n : ℕ). fresh (n == 97)) first ∙ ap fresh (order_by (metadata_of (user_parts c.args.chunk.now))) in
    subst (λ (r : Receiver). IfErr c.most_or_cause-in-None.result (λ cause. cause_of (refusal r (piece_of (user_parts c.args.chunk.now))) ≡ Some cause))
    (made ∙ sym (receiver_new c.args.self.now (user_parts c.args.chunk.now) none)) c.most_or_cause-in-None.ensures.refused

pub returns-in-None-clause-most : goal.returns-in-None-clause-most
returns-in-None-clause-most c =
    let none : in_taking c.args.chunk.now.flow c.args.self.now.taking ≡ None = not_there 0 c.args.chunk.now.flow c.args.self.now.taking (sym c.requires.at ∙ c.in-None.is) in
    let first : c.unwrap_or-first.result ≡ unwrap_or (option_map first_byte (metadata_of (user_parts c.args.chunk.now))) 0 = search rules in
    let made : c.new-receiver.result ≡ fresh (order_of (metadata_of (user_parts c.args.chunk.now))) =
    c.new-receiver.ensures ∙ ap (λ (n : ℕ). fresh (n == 97)) first ∙ ap fresh (order_by (metadata_of (user_parts c.args.chunk.now))) in
    subst (λ (n : ℕ). IfOk c.most_or_cause-in-None.result (λ most. most ≡ n + 1))
    (ap (λ (r : Receiver). length r.runs) made ∙ ap (λ (o : Option TakingFlow). most_by o) (sym none)) c.most_or_cause-in-None.ensures.most
