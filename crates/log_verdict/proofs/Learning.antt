-- The secrets that ends learn.
use Rattle.std.proofs.Common.{ℕ, List, [], ◌∷◌, ◌++◌, ◌≡◌, ◌==◌, Bool, false, if◌then◌else◌, refl, sym, ap, subst, ◌∙◌, Option, Some, None, inl, inr}
use Rattle.endpoint_model.specs.declared.entry.Entry.{Entry}
use Rattle.endpoint_model.specs.Event.{Setup, Event, learn_in, moment_at}
use Rattle.endpoint_model.specs.Views.{learnt_in}
use Rattle.endpoint_model.proofs.Members.{tested}
use Rattle.endpoint_laws.specs.Past.{Past, last_moment, last_call, learn_of, past_of, onto, with_begun, with_entry, with_event, WasLearnt}
use Rattle.endpoint_laws.specs.Contexts.{Secrets}
use Rattle.endpoint_laws.specs.History.{Happened, History, log_of, past_at}
use Rattle.log_verdict.specs.Checks.{Counts, LearntCounts, LearnsCount, EventsPass, now_of}

past_more : (last : ℕ) (past : Past) (log : List Event) (e : Event) → past_of last past (log ++ e ∷ []) ≡ with_event (moment_at (last_moment last log) e) e (past_of last past log)
past_more last past [] e = refl
past_more last past (x ∷ log) e = past_more (moment_at last x) (with_event (moment_at last x) x past) log e

module _ (secrets : Secrets) where
  -- Each secret that was learnt counts.
  abbrev pub LearntSo : Past → Type 0
  LearntSo past = (generation : ℕ) (secret : List ℕ) → WasLearnt generation secret past → Counts secrets generation secret

  counts_at : (learns : Option (List ℕ)) (learnt : Option ℕ) → LearntCounts secrets learns learnt → (generation : ℕ) (secret : List ℕ) → learnt ≡ Some generation → learns ≡ Some secret → Counts secrets generation secret
  counts_at None learnt counts generation secret e f = absurd cc
  counts_at (Some s) None counts generation secret e f = absurd cc
  counts_at (Some s) (Some g) counts generation secret e f = cc

  pub learnt_onto : (m : ℕ) (entries : List Entry) (past : Past) → LearnsCount secrets (learn_of (last_call past)) entries → LearntSo past → LearntSo (onto m entries past)
  learnt_onto m [] past counts so = so
  learnt_onto m (entry ∷ rest) past counts so =
      learnt_onto m rest (with_entry m entry past) counts.1 (λ generation secret was. more generation secret was)
    where
      more : LearntSo (with_entry m entry past)
      more generation secret (inl here) = counts_at (learn_of (last_call past)) (learnt_in entry) counts.0 generation secret here.0 here.1
      more generation secret (inr before) = so generation secret before

  -- What was learnt before stays so.
  pub was_onto : (m : ℕ) (entries : List Entry) (past : Past) (generation : ℕ) (secret : List ℕ) → WasLearnt generation secret past → WasLearnt generation secret (onto m entries past)
  was_onto m [] past generation secret was = was
  was_onto m (entry ∷ rest) past generation secret was = was_onto m rest (with_entry m entry past) generation secret (inr was)

  counts_by : (learns : Option (List ℕ)) (learnt : Option ℕ) → ((generation : ℕ) (secret : List ℕ) → learnt ≡ Some generation → learns ≡ Some secret → Counts secrets generation secret) → LearntCounts secrets learns learnt
  counts_by None learnt by = tt
  counts_by (Some s) None by = tt
  counts_by (Some s) (Some g) by = by g s refl refl

  -- Where each secret counts that was learnt in the end, those of these entries do.
  pub learns_count : (m : ℕ) (entries : List Entry) (past : Past) → LearntSo (onto m entries past) → LearnsCount secrets (learn_of (last_call past)) entries
  learns_count m [] past so = tt
  learns_count m (entry ∷ rest) past so = (
    counts_by (learn_of (last_call past)) (learnt_in entry) (λ generation secret e f. so generation secret (was_onto m rest (with_entry m entry past) generation secret (inl (e, f)))),
    learns_count m rest (with_entry m entry past) so,
  )

  module _ (ends : ℕ → Setup) where
    -- the end's past with the event, and another's
    pub past_same : (h : Happened) (earlier : History) → past_at h.who (h ∷ earlier) ≡ with_event (now_of h earlier) h.event (past_at h.who earlier)
    past_same h earlier = elim (tested h.who h.who) [
      | inl d ↦ ap (λ (b : Bool). past_of 0 [] (if b then log_of h.who earlier ++ h.event ∷ [] else log_of h.who earlier)) d.1 ∙ past_more 0 [] (log_of h.who earlier) h.event
      | inr d ↦ absurd (d.0 refl)
    ]

    pub past_other : (h : Happened) (earlier : History) (who : ℕ) → (h.who == who) ≡ false → past_at who (h ∷ earlier) ≡ past_at who earlier
    past_other h earlier who e = ap (λ (b : Bool). past_of 0 [] (if b then log_of who earlier ++ h.event ∷ [] else log_of who earlier)) e

    learnt_here : (h : Happened) (earlier : History) → LearnsCount secrets (learn_in h.event.call) h.event.entries → LearntSo (past_at h.who earlier) → LearntSo (past_at h.who (h ∷ earlier))
    learnt_here h earlier counts before = subst LearntSo (sym (past_same h earlier))
        (learnt_onto (now_of h earlier) h.event.entries (with_begun (now_of h earlier) h.event (past_at h.who earlier)) counts begun)
      where
        none : {A : Type 0} (x : A) → None ≡ Some x → ⊥
        none x e = absurd cc

        begun : LearntSo (with_begun (now_of h earlier) h.event (past_at h.who earlier))
        begun generation secret (inl here) = absurd (none generation here.0)
        begun generation secret (inr was) = before generation secret was

    pub passed_learnt : (history : History) → EventsPass secrets ends history → (who : ℕ) → LearntSo (past_at who history)
    passed_learnt [] pass who = λ generation secret was. absurd was
    passed_learnt (h ∷ earlier) pass who = elim (tested h.who who) [
      | inl is ↦ subst (λ (w : ℕ). LearntSo (past_at w (h ∷ earlier))) is.0 (learnt_here h earlier pass.1.0 (passed_learnt earlier pass.0 h.who))
      | inr is ↦ subst LearntSo (sym (past_other h earlier who is.1)) (passed_learnt earlier pass.0 who)
    ]
