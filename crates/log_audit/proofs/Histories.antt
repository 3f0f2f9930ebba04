-- The history that an order tells, as far as it went by.
use Rattle.std.proofs.Common.{ℕ, List, [], ◌∷◌, ◌++◌, ◌≡◌, ◌==◌, ◌<◌, inl, inr, refl, sym, ap, subst, ◌∙◌, length, get_or, map, Bool, true, false, if◌then◌else◌, arith}
use Rattle.std.proofs.lemmas.List.{get_or-map}
use Rattle.endpoint_model.proofs.Members.{tested}
use Rattle.endpoint_model.specs.Event.{Event, Setup}
use Rattle.endpoint_laws.specs.Contexts.{Secrets}
use Rattle.endpoint_laws.specs.Laws.{IsCall, AreCalls}
use Rattle.endpoint_laws.specs.History.{Happened, History, log_of, TakesPart}
use Rattle.log_values.specs.declared.log.EndLog.{EndLog}
use Rattle.log_values.specs.Events.{setup_of}
use Rattle.log_values.specs.Told.{Logs, IsOrder, events_in, history_of, logs_of, newest_first, no_event, times, told}
use Rattle.log_verdict.specs.declared.verdict.Finding.{Finding}
use Rattle.log_verdict.specs.Told.{end_of, setups_of}
use Rattle.log_verdict.specs.Checks.{EventsFail}
use Rattle.log_verdict.specs.Laws.{AreOfTheEnds}
use Rattle.log_audit.proofs.Going.{in_logs, times_same, times_turned}

-- ---- one event more

pub told_next : (logs : Logs) (who at : ℕ) (earlier : List ℕ) (event : Event) → event ≡ get_or (events_in logs who) at no_event → at ≡ times who earlier → told logs (who ∷ earlier) ≡ record { who = who; event = event } ∷ told logs earlier
told_next logs who at earlier event is place =
    let same : get_or (events_in logs who) (times who earlier) no_event ≡ event = ap (λ (n : ℕ). get_or (events_in logs who) n no_event) (sym place) ∙ sym is in
    ap (λ (e : Event). record { who = who; event = e } ∷ told logs earlier) same

pub length_told : (logs : Logs) (earlier : List ℕ) → length (told logs earlier) ≡ length earlier
length_told logs [] = refl
length_told logs (who ∷ earlier) = omega (arith, length_told logs earlier)

pub log_other : (who : ℕ) (h : Happened) (earlier : History) → (h.who == who) ≡ false → log_of who (h ∷ earlier) ≡ log_of who earlier
log_other who h earlier e = ap (λ (b : Bool). if b then log_of who earlier ++ h.event ∷ [] else log_of who earlier) e

log_same : (who : ℕ) (h : Happened) (earlier : History) → (h.who == who) ≡ true → log_of who (h ∷ earlier) ≡ log_of who earlier ++ h.event ∷ []
log_same who h earlier e = ap (λ (b : Bool). if b then log_of who earlier ++ h.event ∷ [] else log_of who earlier) e

-- ---- what is found is found of all

pub fails_on : (secrets : Secrets) (ends : ℕ → Setup) (logs : Logs) (more earlier : List ℕ) (f : Finding) → EventsFail secrets ends (told logs earlier) f → EventsFail secrets ends (told logs (newest_first more earlier)) f
fails_on secrets ends logs [] earlier f fails = fails
fails_on secrets ends logs (who ∷ more) earlier f fails = fails_on secrets ends logs more (who ∷ earlier) f (inl fails)

-- ---- calls

more_calls : (log : List Event) (e : Event) → AreCalls log → IsCall e.call → AreCalls (log ++ e ∷ [])
more_calls [] e are is = (is, tt)
more_calls (x ∷ log) e are is = (are.0, more_calls log e are.1 is)

pub calls_more : (h : Happened) (earlier : History) → ((who : ℕ) → AreCalls (log_of who earlier)) → IsCall h.event.call → (who : ℕ) → AreCalls (log_of who (h ∷ earlier))
calls_more h earlier are is who = elim (tested h.who who) [
  | inl same ↦ subst AreCalls (sym (log_same who h earlier same.1)) (more_calls (log_of who earlier) h.event (are who) is)
  | inr other ↦ subst AreCalls (sym (log_other who h earlier other.1)) (are who)
]

-- ---- the ends

taking_part : (logs : Logs) (who : ℕ) (earlier : List ℕ) → TakesPart who (told logs earlier) → 0 < times who earlier
taking_part logs who [] part = absurd part
taking_part logs who (next ∷ earlier) (inl is) = elim (tested next who) [
  | inl same ↦ omega (arith, times_same who next earlier same.1)
  | inr other ↦ absurd (other.0 (sym is))
]
taking_part logs who (next ∷ earlier) (inr before) = omega (arith, taking_part logs who earlier before)

setups_mapped : (logs : List EndLog) → setups_of logs ≡ map setup_of logs
setups_mapped [] = refl
setups_mapped (log ∷ logs) = ap (λ l. setup_of log ∷ l) (setups_mapped logs)

pub length_setups : (logs : List EndLog) → length (setups_of logs) ≡ length logs
length_setups [] = refl
length_setups (log ∷ logs) = omega (arith, length_setups logs)

pub setup_there : (logs : List EndLog) (who : ℕ) (log : EndLog) → who < length logs → log ≡ get_or logs who log → end_of (setups_of logs) who ≡ setup_of log
setup_there logs who log within is = ap (λ (l : List Setup). end_of l who) (setups_mapped logs) ∙ get_or-map setup_of logs who log (end_of [] who) within ∙ ap setup_of (sym is)

pub of_the_ends : (logs : List EndLog) (order : List ℕ) → IsOrder (logs_of logs) order → AreOfTheEnds (setups_of logs) (history_of logs order)
of_the_ends logs order is who part =
    let some : 0 < length (events_in (logs_of logs) who) = omega (arith, taking_part (logs_of logs) who (newest_first order []) part, times_turned who order [], is.each who) in
    omega (arith, in_logs logs who 0 some, length_setups logs)
