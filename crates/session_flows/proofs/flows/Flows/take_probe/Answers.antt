use Rattle.std.proofs.Common.{◌≡◌, ℕ, true, false, Option, Some, None, Result, Err, MatchOption, length, refl, sym, ap, ◌∙◌, subst, rules}
use Rattle.std.specs.Prelude.{slice_get, slice_set, is_some, IsOk}
use Rattle.std.proofs.lemmas.Option.{slice_get_read}
use Rattle.session_core.specs.Closing.{is_held}
use Rattle.session_flows.specs.declared.taking.TakingFlow.{TakingFlow}
use Rattle.rtmfp_base.specs.declared.cause.Cause.{Cause}
use Rattle.rtmfp_base.specs.declared.cause.Cause.TheVariants.{UnknownFlow}
use Rattle.session_flows.specs.Keeping.{FlowsState, taking_at}
use Rattle.session_flows.specs.Causes.{probe_cause}
use Rattle.session_flows.specs.Chunks.{owing, probed}
use Rattle.session_flows.specs.Places.{index_from, IsAt}
use Rattle.session_flows.proofs.Sounds.{sound_taking}
use Rattle.session_flows.proofs.Indexed.{is_at, there_is}
use Rattle.session_flows.proofs.Hearing.{flow_gone}
use Rattle.session_flows.proofs.Takes.{no_cause, at_there, at_changed, flow_taken}
use Rattle.session_flows.proofs.flows.Flows.take_probe.Goals as goal

pub invariant_of-self : goal.invariant_of-self
invariant_of-self c =
    let before : FlowsState = record { sending = c.self.inside.sending.items; taking = c.self.inside.taking.items } in
    let at : IsAt c.args.flow before.taking c.in-Some.at = is_at c.args.flow before.taking c.in-Some.at (subst (λ (s : FlowsState). index_from 0 c.args.flow s.taking ≡ Some c.in-Some.at) (sym c.self.view_is) (sym c.taking_index.ensures.place ∙ c.in-Some.is)) in
    let there : slice_get before.taking c.in-Some.at ≡ Some c.index_mut-row.result.now = slice_get_read before.taking (length before.taking) c.in-Some.at c.index_mut-row.result.now refl at.within c.index_mut-row.ensures.value in
    record { sound = sound_taking before c.in-Some.at c.index_mut-row.result.now (owing c.index_mut-row.result.now) there refl c.self.invariant.sound; kept = c.self.invariant.kept }

pub returns-clause-flows : goal.returns-clause-flows
returns-clause-flows c =
    let before : FlowsState = record { sending = c.self.inside.sending.items; taking = c.self.inside.taking.items } in
    let at : IsAt c.args.flow before.taking c.in-Some.at = is_at c.args.flow before.taking c.in-Some.at (subst (λ (s : FlowsState). index_from 0 c.args.flow s.taking ≡ Some c.in-Some.at) (sym c.self.view_is) (sym c.taking_index.ensures.place ∙ c.in-Some.is)) in
    let there : slice_get before.taking c.in-Some.at ≡ Some c.index_mut-row.result.now = slice_get_read before.taking (length before.taking) c.in-Some.at c.index_mut-row.result.now refl at.within c.index_mut-row.ensures.value in
    let after : FlowsState = record { sending = before.sending; taking = slice_set before.taking c.in-Some.at (owing c.index_mut-row.result.now) } in
    subst (λ (s : FlowsState). after ≡ probed s c.args.flow) c.self.view_is (at_changed before c.args.flow c.in-Some.at c.index_mut-row.result.now owing at there)

pub returns-clause-cause : goal.returns-clause-cause
returns-clause-cause c =
    let before : FlowsState = record { sending = c.self.inside.sending.items; taking = c.self.inside.taking.items } in
    let at : IsAt c.args.flow before.taking c.in-Some.at = is_at c.args.flow before.taking c.in-Some.at (subst (λ (s : FlowsState). index_from 0 c.args.flow s.taking ≡ Some c.in-Some.at) (sym c.self.view_is) (sym c.taking_index.ensures.place ∙ c.in-Some.is)) in
    let there : slice_get before.taking c.in-Some.at ≡ Some c.index_mut-row.result.now = slice_get_read before.taking (length before.taking) c.in-Some.at c.index_mut-row.result.now refl at.within c.index_mut-row.ensures.value in
    let held : is_held c.args.session.now.stage ≡ true = search rules in
    let here : is_some (taking_at before c.args.flow) ≡ true = ap (λ (o : Option TakingFlow). is_some o) (at_there before c.args.flow c.in-Some.at c.index_mut-row.result.now at there) in
    no_cause (probe_cause c.args.session.now c.args.self.now c.args.flow) _ _
    (subst (λ (s : FlowsState). probe_cause c.args.session.now s c.args.flow ≡ None) c.self.view_is (flow_taken c.args.session.now (is_some (taking_at before c.args.flow)) held here)) refl

pub returns-in_default-clause-cause : goal.returns-in_default-clause-cause
returns-in_default-clause-cause c =
    let held : is_held c.args.session.now.stage ≡ true = search rules in
    let none : c.taking_index.result ≡ None = search rules in
    let gone : is_some (taking_at c.args.self.now c.args.flow) ≡ false =
    sym (there_is 0 c.args.flow c.args.self.now.taking) ∙ ap (λ (o : Option ℕ). is_some o) (sym c.taking_index.ensures.place ∙ none) in
    subst (λ (o : Option Cause). MatchOption o (IsOk {T = Unit {0}} {E = Cause} (Err UnknownFlow)) (λ x. ◌≡◌ {A = Result (Unit {0}) Cause} (Err UnknownFlow) (Err x))) (sym (flow_gone c.args.session.now (is_some (taking_at c.args.self.now c.args.flow)) held gone)) refl
