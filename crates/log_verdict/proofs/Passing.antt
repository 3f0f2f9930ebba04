-- Logs of which each event passes are lawful, and the other way round.
use Rattle.std.proofs.Common.{ℕ, List, [], ◌∷◌, ◌++◌, ◌==◌, Bool, true, false, if◌then◌else◌, refl, sym, subst, inl, inr}
use Rattle.endpoint_model.specs.declared.entry.Entry.{Entry}
use Rattle.endpoint_model.specs.Event.{Setup, Call, Event, moment_at}
use Rattle.endpoint_model.proofs.Members.{tested}
use Rattle.endpoint_laws.specs.Past.{Past, last_moment, past_of, with_begun, with_event, with_entry}
use Rattle.endpoint_laws.specs.Contexts.{Secrets}
use Rattle.endpoint_laws.specs.Lawful.{EntriesLawful, LawfulFrom, IsLawful}
use Rattle.endpoint_laws.specs.History.{Happened, History, log_of, past_at, AreLawful, IsHonest}
use Rattle.log_verdict.specs.Checks.{EntriesPass, EventsPass, now_of}

pub entries_lawful : (secrets : Secrets) (setup : Setup) (now : ℕ) (call : Call) (past : Past) (nonces : List (List ℕ)) (entries : List Entry) →
    EntriesPass secrets setup now call past nonces entries → EntriesLawful secrets setup now call past entries
entries_lawful secrets setup now call past nonces [] pass = tt
entries_lawful secrets setup now call past nonces (entry ∷ rest) pass =
    (pass.0, entries_lawful secrets setup now call (with_entry now entry past) _ rest pass.2)

lawful_with : (secrets : Secrets) (setup : Setup) (last : ℕ) (past : Past) (log : List Event) (e : Event) → LawfulFrom secrets setup last past log →
    EntriesLawful secrets setup (moment_at (last_moment last log) e) e.call (with_begun (moment_at (last_moment last log) e) e (past_of last past log)) e.entries →
    LawfulFrom secrets setup last past (log ++ e ∷ [])
lawful_with secrets setup last past [] e before here = (here, tt)
lawful_with secrets setup last past (x ∷ log) e before here =
    (before.0, lawful_with secrets setup (moment_at last x) (with_event (moment_at last x) x past) log e before.1 here)

-- what is lawful before the last event, and its entries
lawful_more : (secrets : Secrets) (setup : Setup) (last : ℕ) (past : Past) (log : List Event) (e : Event) → LawfulFrom secrets setup last past (log ++ e ∷ []) →
    LawfulFrom secrets setup last past log ×
    EntriesLawful secrets setup (moment_at (last_moment last log) e) e.call (with_begun (moment_at (last_moment last log) e) e (past_of last past log)) e.entries
lawful_more secrets setup last past [] e l = (tt, l.0)
lawful_more secrets setup last past (x ∷ log) e l =
    let rest = lawful_more secrets setup (moment_at last x) (with_event (moment_at last x) x past) log e l.1 in
    ((l.0, rest.0), rest.1)

pub lawful_before : (secrets : Secrets) (setup : Setup) (who : ℕ) (h : Happened) (earlier : History) → IsLawful secrets setup (log_of who (h ∷ earlier)) → IsLawful secrets setup (log_of who earlier)
lawful_before secrets setup who h earlier is = go (h.who == who) is
  where
    go : (b : Bool) → IsLawful secrets setup (if b then log_of who earlier ++ h.event ∷ [] else log_of who earlier) → IsLawful secrets setup (log_of who earlier)
    go true l = (lawful_more secrets setup 0 [] (log_of who earlier) h.event l).0
    go false l = l

module _ (secrets : Secrets) (ends : ℕ → Setup) where
  -- the entries of an event, judged by its end's log before it
  abbrev pub EventLawful : Happened → History → Type 0
  EventLawful h earlier = EntriesLawful secrets (ends h.who) (now_of h earlier) h.event.call
      (with_begun (now_of h earlier) h.event (past_at h.who earlier)) h.event.entries

  one_more : (who : ℕ) (h : Happened) (earlier : History) → IsLawful secrets (ends who) (log_of who earlier) → EventLawful h earlier → IsLawful secrets (ends who) (log_of who (h ∷ earlier))
  one_more who h earlier before here = elim (tested h.who who) [
    | inl is ↦ subst (λ (w : ℕ). IsLawful secrets (ends w) (log_of w (h ∷ earlier))) is.0 (mine (subst (λ (w : ℕ). IsLawful secrets (ends w) (log_of w earlier)) (sym is.0) before))
    | inr is ↦ subst (λ (b : Bool). IsLawful secrets (ends who) (if b then log_of who earlier ++ h.event ∷ [] else log_of who earlier)) (sym is.1) before
  ]
    where
      mine : IsLawful secrets (ends h.who) (log_of h.who earlier) → IsLawful secrets (ends h.who) (log_of h.who (h ∷ earlier))
      mine l = elim (tested h.who h.who) [
        | inl d ↦ subst (λ (b : Bool). IsLawful secrets (ends h.who) (if b then log_of h.who earlier ++ h.event ∷ [] else log_of h.who earlier)) (sym d.1)
            (lawful_with secrets (ends h.who) 0 [] (log_of h.who earlier) h.event l here)
        | inr d ↦ absurd (d.0 refl)
      ]

  pub passed_lawful : (history : History) → EventsPass secrets ends history → AreLawful secrets ends history
  passed_lawful [] pass who = tt
  passed_lawful (h ∷ earlier) pass who = one_more who h earlier (passed_lawful earlier pass.0 who)
      (entries_lawful secrets (ends h.who) _ h.event.call _ _ h.event.entries pass.1.2)

  pub passed_honest : (history : History) → EventsPass secrets ends history → IsHonest secrets ends history
  passed_honest [] pass = tt
  passed_honest (h ∷ earlier) pass = (pass.1.1, passed_honest earlier pass.0)

  -- the event itself, where the whole is lawful
  pub event_lawful : (h : Happened) (earlier : History) → AreLawful secrets ends (h ∷ earlier) → EventLawful h earlier
  event_lawful h earlier lawful = elim (tested h.who h.who) [
    | inl d ↦ (lawful_more secrets (ends h.who) 0 [] (log_of h.who earlier) h.event
        (subst (λ (b : Bool). IsLawful secrets (ends h.who) (if b then log_of h.who earlier ++ h.event ∷ [] else log_of h.who earlier)) d.1 (lawful h.who))).1
    | inr d ↦ absurd (d.0 refl)
  ]
