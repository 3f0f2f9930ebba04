-- The first thing that is due, by what is handed on of it.
use Rattle.std.proofs.Common.{ℕ, ◌≡◌, List, [], ◌∷◌, Bool, true, false, if◌then◌else◌, Option, Some, None, IsSome, IfSome, is_some, Result, Ok, Err, OnOk, refl, sym, ap, ◌∙◌, subst}
use Rattle.std.specs.Option.{option_map}
use Rattle.std.specs.FinMap.{get}
use Rattle.rtmfp_base.proofs.Lowest.{first_is_there}
use Rattle.rtmfp_base.specs.Reasons.{where_true, first_that_stands}
use Rattle.startup.specs.declared.attempt.Stage.{Stage}
use Rattle.startup.specs.declared.attempt.Stage.TheVariants.{Hello, Keying}
use Rattle.startup.specs.declared.answer.Due.{Due}
use Rattle.startup.specs.declared.aim.Aim.{Aim}
use Rattle.startup.specs.declared.aim.Aim.TheVariants.{AtPeer, ByName}
use Rattle.startup.specs.State.{AttemptState, StartupState}
use Rattle.startup.specs.Attempts.{lowest}
use Rattle.startup.specs.Due.{due, due_end, due_of, due_sends, due_sends_of, is_due, is_over, repeats, repeat_of, repeat_under}
use Rattle.session_core.specs.declared.stage.SessionDue.{SessionDue}
use Rattle.session_core.specs.declared.stage.SessionDue.TheVariants.{Over}
use Rattle.session_core.specs.Closing.{first_due as first_due_in, needs_keepalive}
use Rattle.session_flows.specs.Timing.{overdue_in}
use Rattle.session_flows.specs.Packing.{is_data_due}
use Rattle.endpoint_model.specs.declared.row.Row.{Row}
use Rattle.endpoint_model.specs.declared.row_due.RowDue.{RowDue}
use Rattle.endpoint_model.specs.declared.row_due.RowDue.TheVariants.{Abandon, Data, Keepalive}
use Rattle.endpoint_model.specs.declared.row_due.RowDue.TheVariants as row
use Rattle.endpoint_model.specs.State.{State}
use Rattle.endpoint_model.specs.InSessions.{closed}
use Rattle.endpoint_model.specs.FlowTimes.{due_row, end_due, abandon_due, is_row_due, row_due, row_due_done}
use Rattle.endpoint_model.specs.Effects.{Item, OfAttempt, OfSession, first_due, item_done, tick_once, attempt_item, row_item, session_item}
use Rattle.end_loops.specs.declared.ticking.DueItem.{DueItem}
use Rattle.end_loops.specs.declared.ticking.DueItem.TheVariants.{Attempt, Session}
use Rattle.session_table.specs.Table.{due_of as due_in_row, under}
use Rattle.end_loops.specs.DueItems.{row_due_by, end_due_by, handed_on, sends_of, told_item, due_item}

-- ---- the first session, as the table tells it

handed_under : (near : ℕ) (r : Row) (d : Option RowDue) → handed_on (under near d) ≡ option_map told_item (row_item near r d)
handed_under near r None = refl
handed_under near r (Some due) = refl

pub handed_is : (moment : ℕ) (o : Option (ℕ × Row)) → handed_on (due_in_row moment o) ≡ option_map told_item (session_item moment o)
handed_is moment None = refl
handed_is moment (Some e) = handed_under e.0 e.1 (row_due moment e.1)

-- what is done of a closing that is over
pub over_there : (s : State) (near : ℕ) (o : Option Row) → is_some o ≡ true → end_due_by s near Over o ≡ closed s near
over_there s near None e = absurd (cc)
over_there s near (Some row) e = refl

-- ---- what is handed on of the first thing

-- of an attempt, how many datagrams it sends
sends_again : (cert : List ℕ) (near : ℕ) (a : AttemptState) (stage : Stage) → repeats a.candidates stage ≡ sends_of (repeat_under cert near a stage)
sends_again cert near a Hello = refl
sends_again cert near a (Keying at cookie under) = refl

-- an end sends none
sends_end : (near : ℕ) (aim : Aim) → 0 ≡ sends_of (due_end near aim)
sends_end near (AtPeer peer n) = refl
sends_end near (ByName name) = refl

sends_by : (s : StartupState) (e : ℕ × AttemptState) (b : Bool) → (if b then 0 else repeats e.1.candidates e.1.stage) ≡ sends_of (if b then due_end e.0 e.1.aim else repeat_of s e.0 e.1)
sends_by s e true = sends_end e.0 e.1.aim
sends_by s e false = sends_again s.cert e.0 e.1 e.1.stage

sends_found : (s : StartupState) (moment : ℕ) (o : Option (ℕ × AttemptState)) → due_sends_of moment o ≡ option_map sends_of (due_of s moment o)
sends_found s moment None = refl
sends_found s moment (Some e) = ap (λ (n : ℕ). Some n) (sends_by s e (is_over moment e.1))

sends_are : (s : StartupState) (moment : ℕ) → due_sends s moment ≡ option_map sends_of (due s moment)
sends_are s moment = sends_found s moment (lowest (is_due moment) s.attempts)

-- an attempt is first where something is due of one
told_attempt : (a : Option Due) (rest : Option Item) (sends : ℕ) → option_map sends_of a ≡ Some sends → option_map told_item (first_that_stands (attempt_item a ∷ rest ∷ [])) ≡ Some (Attempt sends)
told_attempt None rest sends e = absurd (cc)
told_attempt (Some d) rest sends e = ap (λ (o : Option ℕ). option_map (λ (n : ℕ). Attempt n) o) e

pub attempt_told : (s : State) (sends : ℕ) → due_sends s.startup s.moment ≡ Some sends → Some (Attempt sends) ≡ due_item s
attempt_told s sends e = sym (told_attempt (due s.startup s.moment) (session_item s.moment (due_row s)) sends (sym (sends_are s.startup s.moment) ∙ e))

-- and a session where nothing is
told_session : (a : Option Due) (rest : Option Item) → option_map sends_of a ≡ None → option_map told_item (first_that_stands (attempt_item a ∷ rest ∷ [])) ≡ option_map told_item rest
told_session None None e = refl
told_session None (Some x) e = refl
told_session (Some d) rest e = absurd (cc)

pub session_told : (s : State) → due_sends s.startup s.moment ≡ None → (told : Option DueItem) → told ≡ option_map told_item (session_item s.moment (due_row s)) → told ≡ due_item s
session_told s e told is = is ∙ sym (told_session (due s.startup s.moment) (session_item s.moment (due_row s)) (sym (sends_are s.startup s.moment) ∙ e))

-- ---- what is known of the first thing

-- it is of an attempt, and this is due of it
pub record IsOfAttempt (s : State) (count : ℕ) : Type 0 where
  pub due_is : Due
  pub is : due s.startup s.moment ≡ Some due_is
  pub sends : due_sends s.startup s.moment ≡ Some count
  pub once : item_done s (Some (OfAttempt due_is)) ≡ tick_once s

-- or of a session, with this row
pub record IsOfSession (s : State) (near : ℕ) (due_is : RowDue) : Type 0 where
  pub row : Row
  pub there : get s.sessions near ≡ Some row
  pub is : row_due s.moment row ≡ Some due_is
  pub once : row_due_done s near row due_is ≡ tick_once s

abbrev pub IsNext : State → DueItem → Type 0
IsNext s (Attempt sends) = IsOfAttempt s sends
IsNext s (Session near due_is) = IsOfSession s near due_is

abbrev IsFirst : State → Item → Type 0
IsFirst s (OfAttempt d) = due s.startup s.moment ≡ Some d
IsFirst s (OfSession near r d) = (get s.sessions near ≡ Some r) × (row_due s.moment r ≡ Some d)

first_is : (s : State) → IfSome (first_due s) (IsFirst s)
first_is s = by (due s.startup s.moment) refl
  where
    by_due : (near : ℕ) (r : Row) (d : Option RowDue) → get s.sessions near ≡ Some r → row_due s.moment r ≡ d → IfSome (first_that_stands (None ∷ row_item near r d ∷ [])) (IsFirst s)
    by_due near r None there is = tt
    by_due near r (Some d) there is = (there, is)

    by_row : (o : Option (ℕ × Row)) → due_row s ≡ o → IfSome (first_that_stands (None ∷ session_item s.moment o ∷ [])) (IsFirst s)
    by_row None is = tt
    by_row (Some e) is = by_due e.0 e.1 (row_due s.moment e.1) (first_is_there (is_row_due s.moment) s.sessions e is).0 refl

    by : (a : Option Due) → due s.startup s.moment ≡ a → IfSome (first_that_stands (attempt_item a ∷ session_item s.moment (due_row s) ∷ [])) (IsFirst s)
    by None is = by_row (due_row s) refl
    by (Some d) is = is

pub next_is : (s : State) (item : DueItem) → due_item s ≡ Some item → IsNext s item
next_is s item e = subst (λ (o : Option DueItem). IfSome o (IsNext s)) e (by (first_due s) refl (first_is s))
  where
    by : (o : Option Item) → first_due s ≡ o → IfSome o (IsFirst s) → IfSome (option_map told_item o) (IsNext s)
    by None is known = tt
    by (Some (OfAttempt d)) is known = record { due_is = d; is = known; sends = sends_are s.startup s.moment ∙ ap (option_map sends_of) known; once = ap (item_done s) (sym is) }
    by (Some (OfSession near r d)) is known = record { row = r; there = known.0; is = known.1; once = ap (item_done s) (sym is) }

-- what is done of a row that is there
pub done_of_it : (s : State) (near : ℕ) (r : Row) (due_is : RowDue) → row_due_by s near due_is (Some r) ≡ row_due_done s near r due_is
done_of_it s near r (row.Session due_is) = refl
done_of_it s near r (Abandon flow seq) = refl
done_of_it s near r Data = refl
done_of_it s near r Keepalive = refl

pub session_done : (s : State) (near : ℕ) (due_is : RowDue) → IsOfSession s near due_is → row_due_by s near due_is (get s.sessions near) ≡ tick_once s
session_done s near due_is next = ap (row_due_by s near due_is) next.there ∙ done_of_it s near next.row due_is ∙ next.once

pub due_of_it : (s : State) (near : ℕ) (due_is : RowDue) → IsOfSession s near due_is → IfSome (get s.sessions near) (λ (r : Row). row_due s.moment r ≡ Some due_is)
due_of_it s near due_is next = subst (λ (o : Option Row). IfSome o (λ (r : Row). row_due s.moment r ≡ Some due_is)) (sym next.there) next.is

-- ---- what is so of a session where this is due of it first

abbrev pub IsDueOf : ℕ → Row → RowDue → Type 0
IsDueOf moment r (row.Session due_is) = first_due_in r.session moment ≡ Some due_is
IsDueOf moment r (Abandon flow seq) = overdue_in r.session r.flows moment ≡ Some (flow, seq)
IsDueOf moment r Data = is_data_due r.session r.flows moment ≡ true
IsDueOf moment r Keepalive = needs_keepalive r.session moment ≡ true

pub is_due_of : (moment : ℕ) (r : Row) (due_is : RowDue) → row_due moment r ≡ Some due_is → IsDueOf moment r due_is
is_due_of moment r due_is e =
    subst (λ (o : Option RowDue). IfSome o (IsDueOf moment r)) e
    (by (first_due_in r.session moment) (overdue_in r.session r.flows moment) (is_data_due r.session r.flows moment) (needs_keepalive r.session moment) refl refl refl refl)
  where
    by : (a : Option SessionDue) (b : Option (ℕ × ℕ)) (c d : Bool) → first_due_in r.session moment ≡ a → overdue_in r.session r.flows moment ≡ b → is_data_due r.session r.flows moment ≡ c → needs_keepalive r.session moment ≡ d →
        IfSome (first_that_stands (end_due a ∷ abandon_due b ∷ where_true c Data ∷ where_true d Keepalive ∷ [])) (IsDueOf moment r)
    by (Some x) b c d ends abandons sends keeps = ends
    by None (Some f) c d ends abandons sends keeps = abandons
    by None None true d ends abandons sends keeps = sends
    by None None false true ends abandons sends keeps = keeps
    by None None false false ends abandons sends keeps = tt

-- the same of the row under a session ID, where there is one
pub if_due : (moment : ℕ) (o : Option Row) (due_is : RowDue) → IfSome o (λ (r : Row). row_due moment r ≡ Some due_is) → IfSome o (λ (r : Row). IsDueOf moment r due_is)
if_due moment None due_is e = tt
if_due moment (Some r) due_is e = is_due_of moment r due_is e

-- nothing is owed where there is nothing to tell
pub always : {A E : Type 0} (r : Result A E) → OnOk r (Unit {0})
always (Ok x) = tt
always (Err e) = tt

-- ---- something is handed on exactly where something is due

none_told : (o : Option Item) → option_map told_item o ≡ None → o ≡ None
none_told None e = refl
none_told (Some x) e = absurd (cc)

pub none_first : (s : State) → due_item s ≡ None → first_due s ≡ None
none_first s e = none_told (first_due s) e

some_told : (o : Option Item) (item : DueItem) → option_map told_item o ≡ Some item → IsSome o
some_told None item e = absurd (cc)
some_told (Some x) item e = refl

pub still_first : (s t : State) (item : DueItem) → t ≡ s → due_item s ≡ Some item → IsSome (first_due t)
still_first s t item same e = subst (λ (x : State). IsSome (first_due x)) (sym same) (some_told (first_due s) item e)
