-- What is found of an event of a history, by what is found of its entries.
use Rattle.std.proofs.Common.{ℕ, ◌+◌, ◌≡◌, List, [], ◌∷◌, ◌++◌, length, Bool, true, false, if◌then◌else◌, refl, sym, ap, subst, ◌∙◌, inl, inr, Option, Some, None, Result, Ok, Err, IfOk}
use Rattle.endpoint_model.specs.Event.{Setup, Event, learn_in, moment_at}
use Rattle.endpoint_model.proofs.Members.{tested}
use Rattle.endpoint_laws.specs.Past.{Past, last_moment, onto, with_begun}
use Rattle.endpoint_laws.specs.Contexts.{Secrets}
use Rattle.endpoint_laws.specs.History.{Happened, History, log_of, past_at, IsHonestCall, nonces_in}
use Rattle.log_digest.specs.Nonces.{NonceSet, AreNonces}
use Rattle.log_sent.specs.Nonces.{stated_onto}
use Rattle.log_sent.proofs.Stating.{nonces_are_stated}
use Rattle.log_events.specs.Watch.{IsWatchOf}
use Rattle.log_events.specs.declared.watch.EndWatch.{EndWatch}
use Rattle.log_verdict.specs.declared.verdict.AuditFault.TheVariants.{NotHonest}
use Rattle.log_verdict.specs.declared.verdict.Finding.{Finding}
use Rattle.log_verdict.specs.Checks.{found, now_of, LearnsCount, EntriesFail}
use Rattle.log_verdict.proofs.Learning.{past_same}
use Rattle.log_judging.specs.Entries.{AreJudged}
use Rattle.log_judging.specs.Judged.{IsJudged, IsWatchIn}

last_more : (last : ℕ) (log : List Event) (e : Event) → last_moment last (log ++ e ∷ []) ≡ moment_at (last_moment last log) e
last_more last [] e = refl
last_more last (x ∷ log) e = last_more (moment_at last x) log e

last_same : (h : Happened) (earlier : History) → last_moment 0 (log_of h.who (h ∷ earlier)) ≡ now_of h earlier
last_same h earlier = elim (tested h.who h.who) [
  | inl d ↦ ap (λ (b : Bool). last_moment 0 (if b then log_of h.who earlier ++ h.event ∷ [] else log_of h.who earlier)) d.1 ∙ last_more 0 (log_of h.who earlier) h.event
  | inr d ↦ absurd (d.0 refl)
]

-- What is so of an answer, if there is one.
pub so_if_ok : {A E : Type 0} (r : Result A E) (P Q : A → Type 0) → ((a : A) → P a → Q a) → IfOk r P → IfOk r Q
so_if_ok (Ok a) P Q so is = so a is
so_if_ok (Err why) P Q so is = tt

pub was_true : (b : Bool) → b ≡ false → b ≡ true → ⊥
was_true b e f = absurd (let clash : false ≡ true = sym e ∙ f in cc)

module _ (secrets : Secrets) (ends : ℕ → Setup) (h : Happened) (earlier : History) where
  kept_after : (w : EndWatch) → IsWatchOf secrets (ends h.who) (now_of h earlier) (onto (now_of h earlier) h.event.entries (with_begun (now_of h earlier) h.event (past_at h.who earlier))) w →
      IsWatchIn secrets ends h.who (h ∷ earlier) w
  kept_after w is =
      subst (λ (last : ℕ). IsWatchOf secrets (ends h.who) last (past_at h.who (h ∷ earlier)) w) (sym (last_same h earlier))
      (subst (λ (past : Past). IsWatchOf secrets (ends h.who) (now_of h earlier) past w) (sym (past_same secrets ends h earlier)) is)

  nonces_after : (n : NonceSet) → AreNonces (stated_onto h.event.entries (nonces_in earlier)) n → AreNonces (nonces_in (h ∷ earlier)) n
  nonces_after n are = subst (λ (nonces : List (List ℕ)). AreNonces nonces n) (sym (nonces_are_stated.event h earlier)) are

  module _ (number : ℕ) where
    -- What is kept where all pass.
    pub goes_on : (w : EndWatch) (n : NonceSet) (f : Option Finding) →
        AreJudged secrets number (ends h.who) (now_of h earlier) h.event.call (with_begun (now_of h earlier) h.event (past_at h.who earlier)) (nonces_in earlier) 0 h.event.entries w n f →
        f ≡ None → IsWatchIn secrets ends h.who (h ∷ earlier) w × AreNonces (nonces_in (h ∷ earlier)) n
    goes_on w n None are e = (kept_after w are.1, nonces_after n are.2)
    goes_on w n (Some f) fails e = absurd (let clash : Some f ≡ None = e in cc)

    module _ (numbered : number ≡ length earlier + 1) where
      -- Its entries are judged, where it is so far as it should be.
      pub by_entries : LearnsCount secrets (learn_in h.event.call) h.event.entries → IsHonestCall secrets (ends h.who) (past_at h.who earlier) earlier h.event.call →
          (w : EndWatch) (n : NonceSet) (f : Option Finding) →
          AreJudged secrets number (ends h.who) (now_of h earlier) h.event.call (with_begun (now_of h earlier) h.event (past_at h.who earlier)) (nonces_in earlier) 0 h.event.entries w n f →
          IsJudged secrets ends h earlier f
      by_entries learns honest w n None are = (learns, honest, are.0)
      by_entries learns honest w n (Some f) fails = inr (
        learns,
        inr (
          honest,
          subst (λ (event : ℕ). EntriesFail secrets event (ends h.who) (now_of h earlier) h.event.call (with_begun (now_of h earlier) h.event (past_at h.who earlier)) (nonces_in earlier) 0 h.event.entries f) numbered fails,
        ),
      )

      -- Its datagram isn't honest.
      pub not_honest : LearnsCount secrets (learn_in h.event.call) h.event.entries → (IsHonestCall secrets (ends h.who) (past_at h.who earlier) earlier h.event.call → ⊥) →
          IsJudged secrets ends h earlier (Some (found number 0 NotHonest))
      not_honest learns not = inr (learns, inl (not, ap (λ (event : ℕ). found event 0 NotHonest) numbered))
