-- One check at most is the first that fails.
use Rattle.std.proofs.Common.{ℕ, List, [], ◌∷◌, ◌++◌, ◌≡◌, ◌+◌, length, sym, ◌∙◌, inl, inr}
use Rattle.glare_core.specs.Steps.{Among}
use Rattle.endpoint_model.specs.declared.entry.Entry.{Entry}
use Rattle.endpoint_model.specs.Event.{Setup, own_of, Call, learn_in}
use Rattle.endpoint_laws.specs.Past.{Past, with_begun, with_entry}
use Rattle.endpoint_laws.specs.Contexts.{Secrets}
use Rattle.endpoint_laws.specs.Lawful.{Line}
use Rattle.endpoint_laws.specs.History.{Happened, History, past_at, IsHonestCall, nonces_in}
use Rattle.log_verdict.specs.declared.verdict.Finding.{Finding}
use Rattle.log_verdict.specs.declared.verdict.AuditFault.TheVariants.{Secrets as ForSecrets, Unlawful, NotHonest, NotFresh}
use Rattle.log_verdict.specs.Told.{end_of, secrets_in}
use Rattle.log_verdict.specs.Checks.{found, Checked, AreNew, nonces_at, Counts, HeadersPass, HeadersFail, LearnsCount, EntriesPass, EntriesFail, EventsPass, EventPasses, EventsFail, EventFails, EventEntriesFail, now_of, AllPass, FailsFirst}
use Rattle.log_verdict.specs.Laws.{OneCheckFailsFirst}

checked_one : (So : Type 0) (here : Finding) (Later : Finding → Type 0) → ((f g : Finding) → Later f → Later g → f ≡ g) → (f g : Finding) → Checked So here Later f → Checked So here Later g → f ≡ g
checked_one So here Later one f g (inl a) (inl b) = a.1 ∙ sym b.1
checked_one So here Later one f g (inl a) (inr b) = absurd (a.0 b.0)
checked_one So here Later one f g (inr a) (inl b) = absurd (b.0 a.0)
checked_one So here Later one f g (inr a) (inr b) = one f g a.1 b.1

checked_none : (So : Type 0) (here : Finding) (Later : Finding → Type 0) → So → ((f : Finding) → Later f → ⊥) → (f : Finding) → Checked So here Later f → ⊥
checked_none So here Later so none f (inl a) = a.0 so
checked_none So here Later so none f (inr a) = none f a.1

module _ (secrets : Secrets) where
  headers_one : (prints : List (List ℕ)) (before : ℕ) (setups : List Setup) (f g : Finding) → HeadersFail secrets prints before setups f → HeadersFail secrets prints before setups g → f ≡ g
  headers_one prints before [] f g a b = absurd a
  headers_one prints before (setup ∷ setups) f g a b =
      checked_one (Counts secrets setup.generation setup.secret) (found 0 (before + 1) ForSecrets)
      (Checked (Among (own_of setup) prints → ⊥) (found 0 (before + 1) NotFresh) (HeadersFail secrets (own_of setup ∷ prints) (before + 1) setups))
      (checked_one (Among (own_of setup) prints → ⊥) (found 0 (before + 1) NotFresh) (HeadersFail secrets (own_of setup ∷ prints) (before + 1) setups)
      (headers_one (own_of setup ∷ prints) (before + 1) setups)) f g a b

  headers_none : (prints : List (List ℕ)) (before : ℕ) (setups : List Setup) → HeadersPass secrets prints setups → (f : Finding) → HeadersFail secrets prints before setups f → ⊥
  headers_none prints before [] pass f a = a
  headers_none prints before (setup ∷ setups) pass f a =
      checked_none (Counts secrets setup.generation setup.secret) (found 0 (before + 1) ForSecrets)
      (Checked (Among (own_of setup) prints → ⊥) (found 0 (before + 1) NotFresh) (HeadersFail secrets (own_of setup ∷ prints) (before + 1) setups)) pass.0
      (checked_none (Among (own_of setup) prints → ⊥) (found 0 (before + 1) NotFresh) (HeadersFail secrets (own_of setup ∷ prints) (before + 1) setups) pass.1
      (headers_none (own_of setup ∷ prints) (before + 1) setups pass.2)) f a

  module _ (event : ℕ) (setup : Setup) (now : ℕ) (call : Call) where
    entries_one : (past : Past) (nonces : List (List ℕ)) (before : ℕ) (entries : List Entry) (f g : Finding) → EntriesFail secrets event setup now call past nonces before entries f →
        EntriesFail secrets event setup now call past nonces before entries g → f ≡ g
    entries_one past nonces before [] f g a b = absurd a
    entries_one past nonces before (entry ∷ rest) f g a b =
        let Later : Finding → Type 0 = EntriesFail secrets event setup now call (with_entry now entry past) (nonces_at entry ++ nonces) (before + 1) rest in
        checked_one (Line secrets setup now call past rest entry) (found event (before + 1) Unlawful) (Checked (AreNew (nonces_at entry) nonces) (found event (before + 1) NotFresh) Later)
        (checked_one (AreNew (nonces_at entry) nonces) (found event (before + 1) NotFresh) Later
        (entries_one (with_entry now entry past) (nonces_at entry ++ nonces) (before + 1) rest)) f g a b

    entries_none : (past : Past) (nonces : List (List ℕ)) (before : ℕ) (entries : List Entry) → EntriesPass secrets setup now call past nonces entries →
        (f : Finding) → EntriesFail secrets event setup now call past nonces before entries f → ⊥
    entries_none past nonces before [] pass f a = a
    entries_none past nonces before (entry ∷ rest) pass f a =
        let Later : Finding → Type 0 = EntriesFail secrets event setup now call (with_entry now entry past) (nonces_at entry ++ nonces) (before + 1) rest in
        checked_none (Line secrets setup now call past rest entry) (found event (before + 1) Unlawful) (Checked (AreNew (nonces_at entry) nonces) (found event (before + 1) NotFresh) Later) pass.0
        (checked_none (AreNew (nonces_at entry) nonces) (found event (before + 1) NotFresh) Later pass.1
        (entries_none (with_entry now entry past) (nonces_at entry ++ nonces) (before + 1) rest pass.2)) f a

  module _ (ends : ℕ → Setup) where
    event_one : (h : Happened) (earlier : History) (f g : Finding) → EventFails secrets ends h earlier f → EventFails secrets ends h earlier g → f ≡ g
    event_one h earlier f g a b =
        checked_one (LearnsCount secrets (learn_in h.event.call) h.event.entries) (found (length earlier + 1) 0 ForSecrets)
        (Checked (IsHonestCall secrets (ends h.who) (past_at h.who earlier) earlier h.event.call) (found (length earlier + 1) 0 NotHonest) (EventEntriesFail secrets ends h earlier))
        (checked_one (IsHonestCall secrets (ends h.who) (past_at h.who earlier) earlier h.event.call) (found (length earlier + 1) 0 NotHonest) (EventEntriesFail secrets ends h earlier)
        (entries_one (length earlier + 1) (ends h.who) (now_of h earlier) h.event.call (with_begun (now_of h earlier) h.event (past_at h.who earlier)) (nonces_in earlier) 0 h.event.entries)) f g a b

    event_none : (h : Happened) (earlier : History) → EventPasses secrets ends h earlier → (f : Finding) → EventFails secrets ends h earlier f → ⊥
    event_none h earlier pass f a =
        checked_none (LearnsCount secrets (learn_in h.event.call) h.event.entries) (found (length earlier + 1) 0 ForSecrets)
        (Checked (IsHonestCall secrets (ends h.who) (past_at h.who earlier) earlier h.event.call) (found (length earlier + 1) 0 NotHonest) (EventEntriesFail secrets ends h earlier)) pass.0
        (checked_none (IsHonestCall secrets (ends h.who) (past_at h.who earlier) earlier h.event.call) (found (length earlier + 1) 0 NotHonest) (EventEntriesFail secrets ends h earlier) pass.1
        (entries_none (length earlier + 1) (ends h.who) (now_of h earlier) h.event.call (with_begun (now_of h earlier) h.event (past_at h.who earlier)) (nonces_in earlier) 0 h.event.entries pass.2)) f a

    events_none : (history : History) → EventsPass secrets ends history → (f : Finding) → EventsFail secrets ends history f → ⊥
    events_none [] pass f a = a
    events_none (h ∷ earlier) pass f (inl before) = events_none earlier pass.0 f before
    events_none (h ∷ earlier) pass f (inr here) = event_none h earlier pass.1 f here.1

    events_one : (history : History) (f g : Finding) → EventsFail secrets ends history f → EventsFail secrets ends history g → f ≡ g
    events_one [] f g a b = absurd a
    events_one (h ∷ earlier) f g (inl a) (inl b) = events_one earlier f g a b
    events_one (h ∷ earlier) f g (inl a) (inr b) = absurd (events_none earlier b.0 f a)
    events_one (h ∷ earlier) f g (inr a) (inl b) = absurd (events_none earlier a.0 g b)
    events_one (h ∷ earlier) f g (inr a) (inr b) = event_one h earlier f g a.1 b.1

one : (setups : List Setup) (history : History) (f g : Finding) → FailsFirst setups history f → FailsFirst setups history g → f ≡ g
one setups history f g (inl a) (inl b) = headers_one (secrets_in setups history) [] 0 setups f g a b
one setups history f g (inl a) (inr b) = absurd (headers_none (secrets_in setups history) [] 0 setups b.0 f a)
one setups history f g (inr a) (inl b) = absurd (headers_none (secrets_in setups history) [] 0 setups a.0 g b)
one setups history f g (inr a) (inr b) = events_one (secrets_in setups history) (end_of setups) history f g a.1 b.1

none : (setups : List Setup) (history : History) (f : Finding) → FailsFirst setups history f → AllPass setups history → ⊥
none setups history f (inl a) pass = headers_none (secrets_in setups history) [] 0 setups pass.0 f a
none setups history f (inr a) pass = events_none (secrets_in setups history) (end_of setups) history pass.1 f a.1

pub one_check_fails_first : OneCheckFailsFirst
one_check_fails_first = record { one = one; none = none }
