-- The secrets that logs tell.
use Rattle.std.proofs.Common.{ℕ, List, [], ◌∷◌, ◌≡◌, ◌+◌, ◌-◌, ◌≤◌, ◌∙◌, refl, sym, ap, subst, length, take, drop, get_or, None}
use Rattle.std.proofs.Math.ListN.{set}
use Rattle.std.specs.FinMap.{empty}
use Rattle.endpoint_model.specs.declared.entry.Entry.{Entry}
use Rattle.endpoint_model.specs.Event.{Event, learn_in}
use Rattle.endpoint_laws.specs.Contexts.{Secrets}
use Rattle.endpoint_laws.specs.History.{History}
use Rattle.log_values.specs.declared.log.EndLog.{EndLog}
use Rattle.log_values.specs.declared.log.LoggedCall.{LoggedCall}
use Rattle.log_values.specs.declared.log.LoggedCall.TheVariants.{Learn as LearnCall}
use Rattle.log_values.specs.Events.{call_of}
use Rattle.log_values.specs.Told.{IsOrder, events_in, history_of, logs_of, no_event, told}
use Rattle.log_verdict.specs.Told.{secrets_in, setups_of, with_entries, with_firsts}
use Rattle.log_audit.specs.Places.{AreSeen, IsAt}
use Rattle.log_audit.proofs.Going.{IsNext, at_first, at_more, at_next, first_and_rest}
use Rattle.log_audit.proofs.Histories.{told_next}

-- A call that isn't a learn learns nothing.
pub nothing_learnt : (entries : List Entry) (secrets : Secrets) → with_entries None entries secrets ≡ secrets
nothing_learnt [] secrets = refl
nothing_learnt (entry ∷ rest) secrets = nothing_learnt rest secrets

pub not_learn : (nonce : List ℕ) (call : LoggedCall) → ((secret : List ℕ) → call ≡ LearnCall secret → ⊥) → learn_in (call_of nonce call) ≡ None
not_learn nonce (LearnCall secret) other = absurd (other secret refl)
not_learn nonce call other = refl

-- ---- in an order

module _ (logs : List EndLog) (order : List ℕ) where
  -- They are those of the events that went by, and these come.
  pub record AreLearnt (rest seen : List ℕ) (known : Secrets) : Type 0 where
    pub earlier : List ℕ
    pub at : IsAt logs order rest earlier seen
    pub are : known ≡ secrets_in (setups_of logs) (told (logs_of logs) earlier)

  pub learnt_next : IsOrder (logs_of logs) order → (rest seen : List ℕ) (known : Secrets) → 1 ≤ length rest → (so : AreLearnt rest seen known) → IsNext logs order (get_or rest 0 0) so.earlier seen
  learnt_next whole rest seen known some so = at_next logs order (get_or rest 0 0) (take (length rest - 1) (drop 1 rest)) so.earlier seen whole
      (subst (λ (r : List ℕ). IsAt logs order r so.earlier seen) (first_and_rest rest 0 some) so.at)

  pub learnt_more : IsOrder (logs_of logs) order → (rest seen later : List ℕ) (known new : Secrets) (event : Event) → 1 ≤ length rest → AreLearnt rest seen known →
      later ≡ set seen (get_or rest 0 0) (get_or seen (get_or rest 0 0) 0 + 1) → event ≡ get_or (events_in (logs_of logs) (get_or rest 0 0)) (get_or seen (get_or rest 0 0) 0) no_event →
      new ≡ with_entries (learn_in event.call) event.entries known → AreLearnt (take (length rest - 1) (drop 1 rest)) later new
  learnt_more whole rest seen later known new event some so counted same learnt =
      let who : ℕ = get_or rest 0 0 in
      let next : IsNext logs order who so.earlier seen = learnt_next whole rest seen known some so in
      let more : List ℕ = take (length rest - 1) (drop 1 rest) in
      record {
        earlier = who ∷ so.earlier;
        at = subst (λ (l : List ℕ). IsAt logs order more (who ∷ so.earlier) l) (sym counted)
            (at_more logs order who more so.earlier seen (subst (λ (r : List ℕ). IsAt logs order r so.earlier seen) (first_and_rest rest 0 some) so.at) next.end);
        are =
            learnt ∙ ap (with_entries (learn_in event.call) event.entries) so.are
            ∙ ap (λ (h : History). secrets_in (setups_of logs) h) (sym (told_next (logs_of logs) who (get_or seen who 0) so.earlier event same next.place));
      }
