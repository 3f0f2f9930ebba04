-- What an audit keeps of its ends, while the history grows.
use Rattle.std.proofs.Common.{ℕ, suc, Option, None, Result, Ok, Err, IfOk, List, [], ◌∷◌, ◌++◌, ◌≡◌, ◌==◌, ◌<◌, ◌+◌, inl, inr, refl, sym, ap, subst, ◌∙◌, length, get_or, false, Some, arith, get_or-set_same, get_or-set_other, length-set}
use Rattle.std.proofs.Math.ListN.{set}
use Rattle.std.specs.List.{slice_get}
use Rattle.std.proofs.lemmas.List.{get_or_append_left, get_or_push, length_push}
use Rattle.std.proofs.lemmas.Option.{get_or_from_slice_get, slice_get_read, slice_get_within}
use Rattle.std.proofs.lemmas.Bool.{cases_lt}
use Rattle.endpoint_model.proofs.Members.{tested}
use Rattle.endpoint_model.specs.Event.{Event, Setup}
use Rattle.endpoint_laws.specs.Past.{last_moment, past_of_log}
use Rattle.endpoint_laws.specs.Contexts.{Secrets}
use Rattle.endpoint_laws.specs.History.{Happened, History, nonces_in}
use Rattle.log_events.specs.Watch.{IsWatchOf}
use Rattle.log_digest.specs.Nonces.{AreNonces}
use Rattle.log_judging.specs.Judged.{IsWatchIn}
use Rattle.log_sent.specs.Sent.{IsSentOf}
use Rattle.log_verdict.specs.declared.verdict.Finding.{Finding}
use Rattle.log_verdict.specs.Checks.{kept_in}
use Rattle.log_verdict.specs.Told.{end_of}
use Rattle.rtmfp_base.specs.declared.memory.Memory.{Memory}
use Rattle.log_audit.specs.declared.auditing.Together.{Together}
use Rattle.log_audit.specs.Together.{IsBeforeSent, IsTogetherOf}
use Rattle.log_audit.specs.declared.ends.KeptEnd.{KeptEnd}
use Rattle.log_audit.specs.Ends.{AreEndsOf, IsEndOf}
use Rattle.log_audit.proofs.Histories.{log_other}

-- ---- an item of a list

there_before : {X : Type 0} (xs : List X) (i j : ℕ) (y x : X) → (j ≡ i → ⊥) → slice_get (set xs i y) j ≡ Some x → slice_get xs j ≡ Some x
there_before xs i j y x other is =
    let within : j < length xs = omega (arith, slice_get_within (set xs i y) j x is, length-set xs i y) in
    slice_get_read xs (length xs) j x refl within (sym (get_or_from_slice_get (set xs i y) j x x is) ∙ get_or-set_other xs i j y x other)

put_there : {X : Type 0} (xs : List X) (i : ℕ) (y x : X) → i < length xs → slice_get (set xs i y) i ≡ Some x → y ≡ x
put_there xs i y x within is = sym (get_or-set_same xs i y y within) ∙ get_or_from_slice_get (set xs i y) i x y is

module _ (secrets : Secrets) (setups : List Setup) where
  -- ---- one event more

  -- An event of another end leaves what is kept of an end.
  end_other : (h : Happened) (earlier : History) (who : ℕ) (e : KeptEnd) → (h.who == who) ≡ false → IsEndOf secrets setups earlier who e → IsEndOf secrets setups (h ∷ earlier) who e
  end_other h earlier who e other is = record {
    own = is.own;
    cookies = is.cookies;
    watch = subst (λ (log : List Event). IsWatchOf secrets (end_of setups who) (last_moment 0 log) (past_of_log log) e.watch) (sym (log_other who h earlier other)) is.watch;
  }

  pub ends_more : (h : Happened) (earlier : History) (ends : List KeptEnd) (e : KeptEnd) → h.who < length ends → AreEndsOf secrets setups earlier ends → IsEndOf secrets setups (h ∷ earlier) h.who e → AreEndsOf secrets setups (h ∷ earlier) (set ends h.who e)
  ends_more h earlier ends e within are is = record { count = length-set ends h.who e ∙ are.count; each = each }
    where
      each : (who : ℕ) (x : KeptEnd) → slice_get (set ends h.who e) who ≡ Some x → IsEndOf secrets setups (h ∷ earlier) who x
      each who x at = elim (tested h.who who) [
        | inl same ↦
            let here : slice_get (set ends h.who e) h.who ≡ Some x = subst (λ (w : ℕ). slice_get (set ends h.who e) w ≡ Some x) (sym same.0) at in
            subst (λ (w : ℕ). IsEndOf secrets setups (h ∷ earlier) w x) same.0 (subst (IsEndOf secrets setups (h ∷ earlier) h.who) (put_there ends h.who e x within here) is)
        | inr other ↦ end_other h earlier who x other.1 (are.each who x (there_before ends h.who who e x (λ same. other.0 (sym same)) at))
      ]

  -- ---- one end more

  -- What is kept of the ends before this place.
  pub record AreFirstEnds (count : ℕ) (ends : List KeptEnd) : Type 0 where
    pub many : length ends ≡ count
    pub each : (who : ℕ) (e : KeptEnd) → slice_get ends who ≡ Some e → IsEndOf secrets setups [] who e

  pub end_more : (count : ℕ) (ends : List KeptEnd) (e : KeptEnd) → AreFirstEnds count ends → IsEndOf secrets setups [] count e → AreFirstEnds (count + 1) (ends ++ e ∷ [])
  end_more count ends e are is = record { many = length_push ends e ∙ ap (λ n. n + 1) are.many; each = each }
    where
      each : (who : ℕ) (x : KeptEnd) → slice_get (ends ++ e ∷ []) who ≡ Some x → IsEndOf secrets setups [] who x
      each who x at = elim (cases_lt who (length ends)) [
        | inl within ↦ are.each who x (slice_get_read ends (length ends) who x refl within (sym (get_or_from_slice_get (ends ++ e ∷ []) who x x at) ∙ get_or_append_left ends (e ∷ []) x who within))
        | inr beyond ↦
            let last : length ends ≡ who = omega (arith, beyond, slice_get_within (ends ++ e ∷ []) who x at, length_push ends e) in
            let same : e ≡ x = sym (get_or_push ends e x who last) ∙ get_or_from_slice_get (ends ++ e ∷ []) who x x at in
            subst (λ (w : ℕ). IsEndOf secrets setups [] w x) (sym are.many ∙ last) (subst (IsEndOf secrets setups [] count) same is)
      ]

  -- ---- how many are kept

  pub kept_next : (history : History) (ends : List KeptEnd) (place kept new : ℕ) (e : KeptEnd) → AreEndsOf secrets setups history ends → place < length ends → e ≡ get_or ends place e → kept ≡ kept_in place history → new ≡ kept + e.watch.kept →
      new ≡ kept_in (place + 1) history
  kept_next history ends place kept new e are within there before more =
      let is : IsEndOf secrets setups history place e = are.each place e (slice_get_read ends (length ends) place e refl within there) in
      let same : suc place ≡ place + 1 = omega arith in
      more ∙ ap (λ n. n + e.watch.kept) before ∙ ap (λ n. kept_in place history + n) is.watch.kept_is ∙ ap (λ n. kept_in n history) same

  -- ---- one event judged

  module _ (h : Happened) (earlier : History) where
    pub end_goes_on : (found : Result (Option Finding) Memory) (e later : KeptEnd) (all new : Together) → IsEndOf secrets setups earlier h.who e → IsTogetherOf earlier all → later.own ≡ e.own → later.cookies ≡ e.cookies → new.sent ≡ all.sent →
        IfOk found (λ f. f ≡ None → IsWatchIn secrets (end_of setups) h.who (h ∷ earlier) later.watch × AreNonces (nonces_in (h ∷ earlier)) new.nonces) →
        IfOk found (λ f. f ≡ None → IsEndOf secrets setups (h ∷ earlier) h.who later × IsBeforeSent h earlier new)
    end_goes_on (Err m) e later all new is both own cookies sent goes = tt
    end_goes_on (Ok f) e later all new is both own cookies sent goes = λ none. (
      record { own = is.own ∙ sym own; cookies = is.cookies ∙ sym cookies; watch = (goes none).0 },
      record { sent = subst (IsSentOf earlier) (sym sent) both.sent; nonces = (goes none).1 },
    )

    pub ends_go_on : (found : Result (Option Finding) Memory) (ends : List KeptEnd) (e : KeptEnd) (new : Together) → h.who < length ends → AreEndsOf secrets setups earlier ends →
        IfOk found (λ f. f ≡ None → IsEndOf secrets setups (h ∷ earlier) h.who e × IsBeforeSent h earlier new) →
        IfOk found (λ f. f ≡ None → AreEndsOf secrets setups (h ∷ earlier) (set ends h.who e) × IsBeforeSent h earlier new)
    ends_go_on (Err m) ends e new within are goes = tt
    ends_go_on (Ok f) ends e new within are goes = λ none. (ends_more h earlier ends e within are (goes none).0, (goes none).1)
