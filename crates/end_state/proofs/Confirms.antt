-- What confirming a half-open session does.
use Rattle.std.proofs.Common.{if◌then◌else◌, ℕ, ◌≡◌, List, [], ◌∷◌, Bool, true, false, Option, None, Some, IfSome, refl, sym, ap, subst, ◌∙◌}
use Rattle.std.specs.Prelude.{option_to_list}
use Rattle.std.specs.FinMap.{get, insert}
use Rattle.glare_core.specs.declared.facts.Fact.{Fact}
use Rattle.glare_core.specs.Ledger.{Ledger, noted_if}
use Rattle.startup.specs.State.{StartupState}
use Rattle.startup.specs.Attempts.{after_confirm, after_end_by, confirm_fact}
use Rattle.session_core.specs.Session.{is_opening, confirmed}
use Rattle.endpoint_model.specs.declared.row.Row.{Row}
use Rattle.endpoint_model.specs.declared.entry.Entry.{Entry}
use Rattle.endpoint_model.specs.declared.place.Place.{Place}
use Rattle.endpoint_model.specs.declared.place.Place.TheVariants.{Startup, Attempt, Session}
use Rattle.endpoint_model.specs.Added.{IsShort}
use Rattle.endpoint_model.specs.State.{State, Sessions, Did, with_session, with_sessions, with_startup, fact_entries, nothing}
use Rattle.endpoint_model.specs.Admission.{confirms, confirms_by, confirming, confirming_by}
use Rattle.end_state.specs.Steps.{Gives}
use Rattle.end_state.proofs.Giving.{gives_nothing}

-- a fact leaves the own fingerprint as it is
pub own_stays : (l : Ledger) (fact : Option Fact) → l.own ≡ (noted_if l fact).own
own_stays l None = refl
own_stays l (Some fact) = refl

-- and so does the end of a session
pub own_after_end : (s : StartupState) (peer : List ℕ) (fact : Option Fact) → s.ledger.own ≡ (after_end_by s peer fact).ledger.own
own_after_end s peer None = refl
own_after_end s peer (Some fact) = refl

-- what confirming a half-open session does
pub confirming_is : (s : State) (near : ℕ) (row : Row) → is_opening row.session.stage ≡ true → confirming_by s near (Some row) ≡ record {
  state = with_session (with_startup s (after_confirm s.startup row.session.joined.peer)) near row (confirmed row.session);
  entries = fact_entries (confirm_fact s.startup row.session.joined.peer);
}
confirming_is s near row half_open =
    ap (λ (b : Bool).
    if b
    then record {
      state = with_session (with_startup s (after_confirm s.startup row.session.joined.peer)) near row (confirmed row.session);
      entries = fact_entries (confirm_fact s.startup row.session.joined.peer);
    }
    else nothing s) half_open

-- the state after a half-open session was confirmed, and the entry that tells it
pub confirmed_gives : (s now : State) (near : ℕ) (old new : Row) (startup : StartupState) (sessions : Sessions) (fact : Option Fact) (entry : Option Entry) →
    s ≡ now → get s.sessions near ≡ Some old → confirms_by (get now.sessions near) ≡ true → new ≡ record old { session = confirmed old.session } → sessions ≡ insert s.sessions near new →
    startup ≡ after_confirm s.startup old.session.joined.peer → fact ≡ confirm_fact s.startup old.session.joined.peer → fact_entries fact ≡ option_to_list entry → IfSome entry (λ e. IsShort e) →
    Gives (confirming_by now near (get now.sessions near)) (with_sessions (with_startup s startup) sessions) entry
confirmed_gives s now near old new startup sessions fact entry is was half_open new_is sessions_are startup_is fact_is entries short =
    let half : is_opening old.session.stage ≡ true = sym (ap confirms_by was) ∙ ap (λ (t : State). confirms_by (get t.sessions near)) is ∙ half_open in
    let same : confirming_by now near (get now.sessions near) ≡ confirming_by s near (Some old) = ap (λ (t : State). confirming_by t near (get t.sessions near)) (sym is) ∙ ap (confirming_by s near) was in
    let P : Did → Type 0 = λ d. Gives d (with_sessions (with_startup s startup) sessions) entry in
    subst P (sym (same ∙ confirming_is s near old half)) (record {
      state =
          ap (λ (st : StartupState). with_sessions (with_startup s st) sessions) startup_is
          ∙ ap (λ m. with_sessions (with_startup s (after_confirm s.startup old.session.joined.peer)) m) (sessions_are ∙ ap (insert s.sessions near) new_is);
      entries = ap fact_entries (sym fact_is) ∙ entries;
      short = short;
    })

-- where there is no such session nothing is done
pub unconfirmed_gives : (now : State) (near : ℕ) → get now.sessions near ≡ None → Gives (confirming_by now near (get now.sessions near)) now None
unconfirmed_gives now near none = let P : Did → Type 0 = λ d. Gives d now None in subst P (sym (ap (confirming_by now near) none)) (gives_nothing now)

-- where an entry is given, a session is confirmed
confirmed_by : (s : State) (near : ℕ) (o : Option Row) (entry : Entry) → (confirming_by s near o).entries ≡ entry ∷ [] → confirms_by o ≡ true
confirmed_by s near None entry e = absurd (cc)
confirmed_by s near (Some row) entry e = by (is_opening row.session.stage) refl e
  where
    told : Did
    told = record {
      state = with_session (with_startup s (after_confirm s.startup row.session.joined.peer)) near row (confirmed row.session);
      entries = fact_entries (confirm_fact s.startup row.session.joined.peer);
    }

    by : (b : Bool) → is_opening row.session.stage ≡ b → (if b then told else nothing s).entries ≡ entry ∷ [] → is_opening row.session.stage ≡ true
    by true is e = is
    by false is e = absurd (cc)

pub confirms_where : (s t : State) (place : Place) (entry : Entry) → Gives (confirming s place) t (Some entry) → confirms s place ≡ true
confirms_where s t (Startup generation) entry gives = let e : [] ≡ entry ∷ [] = gives.entries in absurd (cc)
confirms_where s t (Attempt near generation) entry gives = let e : [] ≡ entry ∷ [] = gives.entries in absurd (cc)
confirms_where s t (Session near) entry gives = confirmed_by s near (get s.sessions near) entry gives.entries
