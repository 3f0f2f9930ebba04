-- Ends that are told, and a session that changes.
use Rattle.std.proofs.Common.{if◌then◌else◌, ℕ, ◌≡◌, ◌≤◌, List, ◌++◌, Bool, true, false, is_some, Option, Some, None, IfSome, refl, sym, ap, ◌∙◌, subst, arith}
use Rattle.std.specs.Prelude.{option_to_list}
use Rattle.std.specs.FinMap.{get}
use Rattle.glare_core.specs.declared.facts.Fact.{Fact}
use Rattle.glare_core.specs.declared.facts.Why.{Why}
use Rattle.startup.specs.State.{StartupState}
use Rattle.startup.specs.Attempts.{end_fact, after_end}
use Rattle.session_core.specs.Session.{SessionState}
use Rattle.session_core.specs.Closing.{is_held}
use Rattle.endpoint_model.specs.declared.row.Row.{Row}
use Rattle.endpoint_model.specs.declared.entry.Entry.{Entry}
use Rattle.endpoint_model.specs.Added.{Added, IsShort}
use Rattle.endpoint_model.specs.State.{State, Did, Done, nothing, fact_entries, with_startup, with_session}
use Rattle.endpoint_model.specs.InSessions.{if_held, ended_as, sent_home, sent_home_by}
use Rattle.endpoint_model.proofs.Steps.{done_nothing, joined}
use Rattle.end_state.specs.Steps.{Gives, session_changed, end_told}
use Rattle.end_state.proofs.Giving.{gives_nothing}

-- ---- an end is told

pub told_gives : (s now : State) (near : ℕ) (why : Why) (row : Row) (startup : StartupState) (fact : Option Fact) (entry : Option Entry) →
    s ≡ now → get s.sessions near ≡ Some row → startup ≡ after_end s.startup row.session.joined.peer why → fact ≡ end_fact s.startup row.session.joined.peer why →
    fact_entries fact ≡ option_to_list entry → IfSome entry (λ e. IsShort e) → Gives (end_told now why (get now.sessions near)) (with_startup s startup) entry
told_gives s now near why row startup fact entry is was startup_is fact_is entries short =
    let same : end_told now why (get now.sessions near) ≡ end_told s why (Some row) = ap (λ (t : State). end_told t why (get t.sessions near)) (sym is) ∙ ap (end_told s why) was in
    let P : Did → Type 0 = λ d. Gives d (with_startup s startup) entry in
    subst P (sym same) (record {
      state = ap (with_startup s) startup_is;
      entries = ap fact_entries (sym fact_is) ∙ entries;
      short = short;
    })

pub untold_gives : (now : State) (near : ℕ) (why : Why) → get now.sessions near ≡ None → Gives (end_told now why (get now.sessions near)) now None
untold_gives now near why none = let P : Did → Type 0 = λ d. Gives d now None in subst P (sym (ap (end_told now why) none)) (gives_nothing now)

-- ---- room was made before

pub made_room : (d : Did) (t : State) (before roomy after : Added) → roomy.entries ≡ before.entries → before.free ≤ roomy.free → roomy.room ≡ before.room → Done d t roomy after → Done d t before after
made_room d t before roomy after entries free room done = record {
  state = done.state;
  entries = done.entries ∙ ap (λ xs. xs ++ d.entries) entries;
  free = omega (arith, done.free, free);
  room = done.room ∙ room;
}

-- ---- an end is told, and the session changes

pub ended_done : (s t u : State) (near : ℕ) (why : Why) (change : ℕ → SessionState → SessionState) (row : Row) (before after : Added) → get s.sessions near ≡ Some row →
    Done (end_told s why (get s.sessions near)) t before after → u ≡ session_changed change t near (get t.sessions near) → Done (ended_as s near row why (change s.moment row.session)) u before after
ended_done s t u near why change row before after found told changed =
    let told_of : Done (end_told s why (Some row)) t before after = subst (λ (o : Option Row). Done (end_told s why o) t before after) found told in
    let left : State = with_startup s (after_end s.startup row.session.joined.peer why) in
    record {
      state = changed ∙ ap (λ (x : State). session_changed change x near (get x.sessions near)) told_of.state ∙ ap (session_changed change left near) found;
      entries = told_of.entries;
      free = told_of.free;
      room = told_of.room;
    }

-- the same of the entry that tells it
pub ended_gives : (s t u : State) (near : ℕ) (why : Why) (change : ℕ → SessionState → SessionState) (row : Row) (entry : Option Entry) → get s.sessions near ≡ Some row →
    Gives (end_told s why (get s.sessions near)) t entry → u ≡ session_changed change t near (get t.sessions near) → Gives (ended_as s near row why (change s.moment row.session)) u entry
ended_gives s t u near why change row entry found told changed =
    let told_of : Gives (end_told s why (Some row)) t entry = subst (λ (o : Option Row). Gives (end_told s why o) t entry) found told in
    let left : State = with_startup s (after_end s.startup row.session.joined.peer why) in
    record {
      state = changed ∙ ap (λ (x : State). session_changed change x near (get x.sessions near)) told_of.state ∙ ap (session_changed change left near) found;
      entries = told_of.entries;
      short = told_of.short;
    }

-- nothing is told, and the session changes
pub changed_done : (s u : State) (near : ℕ) (change : ℕ → SessionState → SessionState) (row : Row) (out : Added) → get s.sessions near ≡ Some row →
    u ≡ session_changed change s near (get s.sessions near) → Done (nothing (with_session s near row (change s.moment row.session))) u out out
changed_done s u near change row out found changed =
    let left : State = with_session s near row (change s.moment row.session) in
    subst (λ (x : State). Done (nothing left) x out out) (sym (changed ∙ ap (session_changed change s near) found)) (done_nothing left out)

-- ---- a session that is held

pub record IsHeld (o : Option Row) : Type 0 where
  pub row : Row
  pub is : o ≡ Some row
  pub held : if_held o ≡ Some row
  pub stage : is_held row.session.stage ≡ true

pub held_is : (o : Option Row) → is_some (if_held o) ≡ true → IsHeld o
held_is None e = absurd (cc)
held_is (Some row) e = by (is_held row.session.stage) refl e
  where
    by : (b : Bool) → is_held row.session.stage ≡ b → is_some (if b then Some row else None) ≡ true → IsHeld (Some row)
    by true is e = record { row = row; is = refl; held = ap (λ (x : Bool). if x then Some row else None) is; stage = is }
    by false is e = absurd (cc)

-- ---- where there is no session

pub none_home : (s t u : State) (near : ℕ) (body : List ℕ) (before between after : Added) → get s.sessions near ≡ None → Done (nothing s) t before between → Done (sent_home t near body) u between after → Done (nothing s) u before after
none_home s t u near body before between after none first home =
    let there : Done (sent_home s near body) u between after = subst (λ (x : State). Done (sent_home x near body) u between after) first.state home in
    let quiet : Done (nothing s) u between after = subst (λ (d : Did). Done d u between after) (ap (sent_home_by s near body) none) there in
    joined (nothing s) (λ _. nothing s) t u before between after first quiet
