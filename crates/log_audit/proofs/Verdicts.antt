-- What an audit answers.
use Rattle.std.proofs.Common.{ℕ, List, [], ◌≡◌, ◌↔◌, subst, inl, inr}
use Rattle.endpoint_model.specs.Event.{Setup}
use Rattle.endpoint_laws.specs.Agreed.{IsAgreed}
use Rattle.endpoint_laws.specs.Contexts.{Secrets}
use Rattle.endpoint_laws.specs.History.{History, log_of}
use Rattle.endpoint_laws.specs.Laws.{AreCalls}
use Rattle.log_values.specs.declared.log.EndLog.{EndLog}
use Rattle.log_values.specs.Told.{IsOrder, history_of, logs_of}
use Rattle.log_verdict.specs.declared.verdict.Finding.{Finding}
use Rattle.log_verdict.specs.Told.{end_of, secrets_in, setups_of}
use Rattle.log_verdict.specs.Checks.{AllPass, EventsFail, EventsPass, FailsFirst, HeadersFail, HeadersPass}
use Rattle.log_verdict.specs.Audited.{IsAudited}
use Rattle.log_verdict.proofs.Once.{one_check_fails_first}
use Rattle.log_verdict.proofs.Whole.{each_passed_audit_is_agreed, what_passes_is_audited}
use Rattle.log_audit.proofs.Histories.{of_the_ends}

module _ (logs : List EndLog) (order : List ℕ) where
  abbrev setups : List Setup
  setups = setups_of logs

  abbrev history : History
  history = history_of logs order

  module _ (secrets : Secrets) (same : secrets ≡ secrets_in setups history) where
    pub headers_fail : (f : Finding) → HeadersFail secrets [] 0 setups f → FailsFirst setups history f
    headers_fail f fails = inl (subst (λ (s : Secrets). HeadersFail s [] 0 setups f) same fails)

    pub events_fail : (f : Finding) → HeadersPass secrets [] setups → EventsFail secrets (end_of setups) history f → FailsFirst setups history f
    events_fail f pass fails = inr (subst (λ (s : Secrets). HeadersPass s [] setups) same pass, subst (λ (s : Secrets). EventsFail s (end_of setups) history f) same fails)

    pub all_pass : HeadersPass secrets [] setups → EventsPass secrets (end_of setups) history → AllPass setups history
    all_pass heads events = (subst (λ (s : Secrets). HeadersPass s [] setups) same heads, subst (λ (s : Secrets). EventsPass s (end_of setups) history) same events)

  module _ (whole : IsOrder (logs_of logs) order) where
    pub passed_audited : AllPass setups history → Unit {0} ↔ IsAudited setups history
    passed_audited pass = (λ yes. what_passes_is_audited.audited setups history (of_the_ends logs order whole) pass, λ is. tt)

    pub failed_audited : (f : Finding) → FailsFirst setups history f → ⊥ ↔ IsAudited setups history
    failed_audited f fails = (λ no. absurd no, λ is. one_check_fails_first.none setups history f fails (what_passes_is_audited.passes setups history (of_the_ends logs order whole) is))

    pub passed_agreed : ((who : ℕ) → AreCalls (log_of who history)) → AllPass setups history → IsAgreed (secrets_in setups history) (end_of setups) history
    passed_agreed calls pass = each_passed_audit_is_agreed setups history (of_the_ends logs order whole) calls pass
