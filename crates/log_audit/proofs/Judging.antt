-- The events of logs judged, one after another.
use Rattle.std.proofs.Common.{ℕ, List, [], ◌∷◌, ◌≡◌, ◌+◌, ◌-◌, ◌<◌, ◌≤◌, take, drop, inr, refl, sym, ap, subst, ◌∙◌, length, get_or, Some, None, arith}
use Rattle.std.proofs.Math.ListN.{set}
use Rattle.endpoint_model.specs.Event.{Event}
use Rattle.endpoint_laws.specs.Contexts.{Secrets}
use Rattle.endpoint_laws.specs.Laws.{IsCall, AreCalls}
use Rattle.endpoint_laws.specs.History.{Happened, History, log_of}
use Rattle.log_values.specs.declared.log.EndLog.{EndLog}
use Rattle.log_values.specs.Told.{IsOrder, events_in, history_of, logs_of, newest_first, no_event, told}
use Rattle.log_verdict.specs.declared.verdict.Finding.{Finding}
use Rattle.log_verdict.specs.Told.{end_of, setups_of}
use Rattle.log_verdict.specs.Checks.{EventsPass, EventsFail}
use Rattle.log_judging.specs.Judged.{IsJudged}
use Rattle.log_audit.specs.declared.auditing.Together.{Together}
use Rattle.log_audit.specs.declared.ends.KeptEnd.{KeptEnd}
use Rattle.log_audit.specs.Ends.{AreEndsOf}
use Rattle.log_audit.specs.Found.{AreJudged}
use Rattle.log_audit.specs.Places.{AreSeen, IsAt}
use Rattle.log_audit.specs.Together.{IsTogetherOf}
use Rattle.log_audit.proofs.Going.{IsNext, at_first, at_more, at_next, first_and_rest}
use Rattle.log_audit.proofs.Histories.{calls_more, fails_on, length_setups, length_told, told_next}

-- The events that went by pass, and what is kept is that of them.
pub record HavePassed (secrets : Secrets) (logs : List EndLog) (history : History) (ends : List KeptEnd) : Type 0 where
  pub pass : EventsPass secrets (end_of (setups_of logs)) history
  pub kept : AreEndsOf secrets (setups_of logs) history ends
  pub calls : (who : ℕ) → AreCalls (log_of who history)

module _ (secrets : Secrets) (logs : List EndLog) (order : List ℕ) where
  -- So many events passed, and these come.
  pub record IsJudging (rest : List ℕ) (number : ℕ) (seen : List ℕ) (all : Together) (ends : List KeptEnd) : Type 0 where
    pub earlier : List ℕ
    pub at : IsAt logs order rest earlier seen
    pub count : number ≡ length earlier
    pub passed : HavePassed secrets logs (told (logs_of logs) earlier) ends
    pub together : IsTogetherOf (told (logs_of logs) earlier) all

  pub judging_first : (seen : List ℕ) (all : Together) (ends : List KeptEnd) → AreSeen logs [] seen → IsTogetherOf [] all → AreEndsOf secrets (setups_of logs) [] ends → IsJudging order 0 seen all ends
  judging_first seen all ends are none kept = record {
    earlier = [];
    at = at_first logs order seen are;
    count = refl;
    passed = record { pass = tt; kept = kept; calls = λ who. tt };
    together = none;
  }

  pub judging_last : (rest : List ℕ) (number : ℕ) (seen : List ℕ) (all : Together) (ends : List KeptEnd) → rest ≡ [] → IsJudging rest number seen all ends → HavePassed secrets logs (history_of logs order) ends
  judging_last rest number seen all ends end is =
      let whole : is.earlier ≡ newest_first order [] = ap (λ (r : List ℕ). newest_first r is.earlier) (sym end) ∙ is.at.follows in
      subst (λ (o : List ℕ). HavePassed secrets logs (told (logs_of logs) o) ends) whole is.passed

  module _ (whole : IsOrder (logs_of logs) order) (rest : List ℕ) (some : 1 ≤ length rest) (number : ℕ) (seen : List ℕ) (all : Together) (ends : List KeptEnd) (is : IsJudging rest number seen all ends) where
    abbrev who : ℕ
    who = get_or rest 0 0

    abbrev more : List ℕ
    more = take (length rest - 1) (drop 1 rest)

    at_here : IsAt logs order (who ∷ more) is.earlier seen
    at_here = subst (λ (r : List ℕ). IsAt logs order r is.earlier seen) (first_and_rest rest 0 some) is.at

    pub judging_next : IsNext logs order who is.earlier seen
    judging_next = at_next logs order who more is.earlier seen whole at_here

    pub end_there : who < length ends
    end_there = omega (arith, judging_next.log, is.passed.kept.count, length_setups logs)

    -- the number of the event that comes
    pub judging_number : number + 1 ≡ length (told (logs_of logs) is.earlier) + 1
    judging_number = omega (arith, is.count, length_told (logs_of logs) is.earlier)

    module _ (event : Event) (same : event ≡ get_or (events_in (logs_of logs) who) (get_or seen who 0) no_event) where
      abbrev now : Happened
      now = record { who = who; event = event }

      told_now : told (logs_of logs) (who ∷ is.earlier) ≡ now ∷ told (logs_of logs) is.earlier
      told_now = told_next (logs_of logs) who (get_or seen who 0) is.earlier event same judging_next.place

      pub judging_found : (f : Finding) → IsJudged secrets (end_of (setups_of logs)) now (told (logs_of logs) is.earlier) (Some f) → AreJudged secrets (end_of (setups_of logs)) (history_of logs order) (Some f)
      judging_found f fails =
          let here : EventsFail secrets (end_of (setups_of logs)) (told (logs_of logs) (who ∷ is.earlier)) f =
          subst (λ (h : History). EventsFail secrets (end_of (setups_of logs)) h f) (sym told_now) (inr (is.passed.pass, fails)) in
          subst (λ (o : List ℕ). EventsFail secrets (end_of (setups_of logs)) (told (logs_of logs) o) f) at_here.follows
          (fails_on secrets (end_of (setups_of logs)) (logs_of logs) more (who ∷ is.earlier) f here)

      pub judging_more : (later : List ℕ) (new : Together) (kept : List KeptEnd) → later ≡ set seen who (get_or seen who 0 + 1) → IsJudged secrets (end_of (setups_of logs)) now (told (logs_of logs) is.earlier) None →
          IsCall event.call → AreEndsOf secrets (setups_of logs) (now ∷ told (logs_of logs) is.earlier) kept → IsTogetherOf (now ∷ told (logs_of logs) is.earlier) new → IsJudging more (number + 1) later new kept
      judging_more later new kept counted passes call are together = record {
        earlier = who ∷ is.earlier;
        at = subst (λ (l : List ℕ). IsAt logs order more (who ∷ is.earlier) l) (sym counted) (at_more logs order who more is.earlier seen at_here judging_next.end);
        count = omega (arith, is.count);
        passed = subst (λ (h : History). HavePassed secrets logs h kept) (sym told_now)
            (record { pass = (is.passed.pass, passes); kept = are; calls = calls_more now (told (logs_of logs) is.earlier) is.passed.calls call });
        together = subst (λ (h : History). IsTogetherOf h new) (sym told_now) together;
      }
