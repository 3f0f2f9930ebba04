use Rattle.std.proofs.Common.{◌≡◌, ℕ, List, Option, Some, None, length, refl, sym, ap, ◌∙◌, subst, rules}
use Rattle.std.specs.Prelude.{slice_get, slice_set}
use Rattle.std.specs.Option.{option_map}
use Rattle.std.proofs.lemmas.Option.{slice_get_read}
use Rattle.rtmfp_data_chunks.specs.Runs.{message_of}
use Rattle.flow_recv.specs.Receiver.{next_run}
use Rattle.flow_recv.specs.Outcome.{message}
use Rattle.session_flows.specs.declared.taking.TakingFlow.{TakingFlow}
use Rattle.session_flows.specs.Keeping.{FlowsState, in_taking}
use Rattle.session_flows.specs.Handing.{hands_once, hands_by, handed_stated}
use Rattle.session_flows.specs.Places.{index_from, IsAt}
use Rattle.session_flows.proofs.Sounds.{sound_taking}
use Rattle.session_flows.proofs.Indexed.{is_at, not_there}
use Rattle.session_flows.proofs.Calls.{did}
use Rattle.session_flows.proofs.Takes.{hand_did}
use Rattle.session_flows.proofs.flows.Flows.hand_next.Goals as goal

pub invariant_of-self-2 : goal.invariant_of-self-2
invariant_of-self-2 c =
    let before : FlowsState = record { sending = c.self.inside.sending.items; taking = c.self.inside.taking.items } in
    let found : c.taking_index.result ≡ Some c.in_ok-at.at = search rules in
    let at : IsAt c.args.flow before.taking c.in_ok-at.at = is_at c.args.flow before.taking c.in_ok-at.at (subst (λ (s : FlowsState). index_from 0 c.args.flow s.taking ≡ Some c.in_ok-at.at) (sym c.self.view_is) (sym c.taking_index.ensures.place ∙ found)) in
    let there : slice_get before.taking c.in_ok-at.at ≡ Some c.index_mut-row.result.now = slice_get_read before.taking (length before.taking) c.in_ok-at.at c.index_mut-row.result.now refl at.within c.index_mut-row.ensures.value in
    record { sound = sound_taking before c.in_ok-at.at c.index_mut-row.result.now (record { id = c.index_mut-row.result.now.id; receiver = c.next_message.new.self; owed = c.index_mut-row.result.now.owed }) there refl c.self.invariant.sound; kept = c.self.invariant.kept }

pub returns : goal.returns
returns c =
    let before : FlowsState = record { sending = c.self.inside.sending.items; taking = c.self.inside.taking.items } in
    let found : c.taking_index.result ≡ Some c.in_ok-at.at = search rules in
    let at : IsAt c.args.flow before.taking c.in_ok-at.at = is_at c.args.flow before.taking c.in_ok-at.at (subst (λ (s : FlowsState). index_from 0 c.args.flow s.taking ≡ Some c.in_ok-at.at) (sym c.self.view_is) (sym c.taking_index.ensures.place ∙ found)) in
    let there : slice_get before.taking c.in_ok-at.at ≡ Some c.index_mut-row.result.now = slice_get_read before.taking (length before.taking) c.in_ok-at.at c.index_mut-row.result.now refl at.within c.index_mut-row.ensures.value in
    let after : FlowsState = record { sending = before.sending; taking = slice_set before.taking c.in_ok-at.at (record { id = c.index_mut-row.result.now.id; receiver = c.next_message.new.self; owed = c.index_mut-row.result.now.owed }) } in
    let next : option_map (λ (p : ℕ × List ℕ). message p.0 p.1) c.in-Ok.found ≡ option_map message_of (next_run c.index_mut-row.result.now.receiver) = search rules in
    subst (λ (s : FlowsState). hands_once s c.args.flow ≡ did after (handed_stated c.args.flow c.in-Ok.found)) c.self.view_is
    (hand_did before c.args.flow c.in_ok-at.at c.index_mut-row.result.now c.next_message.new.self c.in-Ok.found at there c.next_message.ensures.rest next)

pub returns-in_err-at : goal.returns-in_err-at
returns-in_err-at c =
    let none : c.taking_index.result ≡ None = search rules in
    let answer : c.from_residual.result ≡ None = search rules in
    let gone : in_taking c.args.flow c.args.self.now.taking ≡ None = not_there 0 c.args.flow c.args.self.now.taking (sym c.taking_index.ensures.place ∙ none) in
    ap (λ (o : Option TakingFlow). hands_by c.args.self.now c.args.flow o) gone ∙ ap (λ (o : Option (ℕ × List ℕ)). did c.args.self.now (handed_stated c.args.flow o)) (sym answer)
