-- What is done one after another, whatever is to be said of it: acks, numbers that are lost by time, and the things of a tick; and the first thing that is due.
use Rattle.std.proofs.Common.{◌≡◌, ℕ, zero, suc, List, [], ◌∷◌, Bool, true, false, if◌then◌else◌, Option, Some, None, refl, subst}
use Rattle.std.specs.FinMap.{get, keys}
use Rattle.rtmfp_base.proofs.Lowest.{first_is_there}
use Rattle.glare_core.specs.declared.facts.Why.TheVariants.{Expired}
use Rattle.rtmfp_base.specs.Reasons.{first_that_stands}
use Rattle.startup.specs.declared.answer.Due.TheVariants.{Ended as EndDue, Unsought as UnsoughtDue}
use Rattle.glare_core.specs.declared.facts.Fact.TheVariants.{Ended}
use Rattle.startup.specs.declared.aim.Aim.{Aim}
use Rattle.startup.specs.declared.aim.Aim.TheVariants.{AtPeer, ByName}
use Rattle.startup.specs.Aims.{end_of_aim}
use Rattle.startup.specs.State.{AttemptState, StartupState}
use Rattle.startup.specs.Attempts.{lowest, with_attempt, without_attempt, without_attempt_by}
use Rattle.startup.specs.Due.{due_end, due_of, after_due, after_due_of, is_due, is_over, repeated, repeat_of}
use Rattle.endpoint_model.specs.declared.row.Row.{Row}
use Rattle.endpoint_model.specs.declared.row_due.RowDue.{RowDue}
use Rattle.endpoint_model.specs.declared.place.Place.{Place}
use Rattle.endpoint_model.specs.declared.place.Place.TheVariants.{Startup, Attempt, Session}
use Rattle.endpoint_model.specs.State.{State, Did, nothing, after_entries, with_startup}
use Rattle.endpoint_model.specs.FlowChunks.{acked_by, owes_by, acked_if, acked_in, acked, unowed_by, unowed}
use Rattle.endpoint_model.specs.FlowTimes.{late_at, late_each, all_late, row_due, is_row_due, due_row, row_due_done}
use Rattle.endpoint_model.specs.Effects.{Item, OfAttempt, OfSession, attempt_item, row_item, session_item, first_due, due_done, item_done, tick_once, ticks}

-- Of nothing, and of one thing after another.
pub record Steps (P : State → Did → Type 0) : Type 0 where
  pub does_nothing : (s : State) → P s (nothing s)
  pub and_then : (s : State) (d e : Did) → P s d → P d.state e → P s (after_entries d.entries e)

-- ---- the first thing that is due

-- The end of an attempt or of a search, its hellos or its keying again, or the first thing of a session.
pub record IsDueThing (R : Did → Type 0) (s : State) : Type 0 where
  pub none : R (nothing s)
  pub ends : (near : ℕ) (a : AttemptState) (peer : List ℕ) (n : ℕ) → a.aim ≡ AtPeer peer n → get s.startup.attempts near ≡ Some a → is_over s.moment a ≡ true →
      R (due_done (with_startup s (without_attempt s.startup near (Ended peer near Expired))) (EndDue (Ended peer near Expired)))
  pub unseeks : (near : ℕ) (a : AttemptState) (name : List ℕ) → a.aim ≡ ByName name → get s.startup.attempts near ≡ Some a → is_over s.moment a ≡ true →
      R (due_done (with_startup s (without_attempt_by s.startup near None)) (UnsoughtDue near))
  pub repeats : (e : ℕ × AttemptState) → get s.startup.attempts e.0 ≡ Some e.1 → R (due_done (with_startup s (with_attempt s.startup e.0 (repeated e.1 s.moment))) (repeat_of s.startup e.0 e.1))
  pub row : (near : ℕ) (row : Row) (due : RowDue) → get s.sessions near ≡ Some row → row_due s.moment row ≡ Some due → R (row_due_done s near row due)

abbrev item_left : State → StartupState → Option Item → Did
item_left s startup None = nothing s
item_left s startup (Some (OfAttempt due)) = due_done (with_startup s startup) due
item_left s startup (Some (OfSession near row due)) = row_due_done s near row due

item_is : (s : State) (item : Option Item) → item_left s (after_due s.startup s.moment) item ≡ item_done s item
item_is s None = refl
item_is s (Some (OfAttempt due)) = refl
item_is s (Some (OfSession near row due)) = refl

module _ (R : Did → Type 0) (s : State) (k : IsDueThing R s) where
  row_walked : (left : StartupState) (near : ℕ) (row : Row) (o : Option RowDue) → get s.sessions near ≡ Some row → row_due s.moment row ≡ o → R (item_left s left (first_that_stands (row_item near row o ∷ [])))
  row_walked left near row None there is = k.none
  row_walked left near row (Some due) there is = k.row near row due there is

  session_walked : (left : StartupState) (o : Option (ℕ × Row)) → due_row s ≡ o → R (item_left s left (first_that_stands (session_item s.moment o ∷ [])))
  session_walked left None is = k.none
  session_walked left (Some e) is = row_walked left e.0 e.1 (row_due s.moment e.1) (first_is_there (is_row_due s.moment) s.sessions e is).0 refl

  end_walked : (near : ℕ) (a : AttemptState) (aim : Aim) → a.aim ≡ aim → get s.startup.attempts near ≡ Some a → is_over s.moment a ≡ true →
      R (due_done (with_startup s (without_attempt_by s.startup near (end_of_aim near Expired aim))) (due_end near aim))
  end_walked near a (AtPeer peer n) aims there over = k.ends near a peer n aims there over
  end_walked near a (ByName name) aims there over = k.unseeks near a name aims there over

  attempt_walked : (e : ℕ × AttemptState) → get s.startup.attempts e.0 ≡ Some e.1 → (b : Bool) → is_over s.moment e.1 ≡ b →
      R (due_done (with_startup s (if b then without_attempt_by s.startup e.0 (end_of_aim e.0 Expired e.1.aim) else with_attempt s.startup e.0 (repeated e.1 s.moment))) (if b then due_end e.0 e.1.aim else repeat_of s.startup e.0 e.1))
  attempt_walked e there true over = end_walked e.0 e.1 e.1.aim refl there over
  attempt_walked e there false over = k.repeats e there

  item_walked : (o : Option (ℕ × AttemptState)) → lowest (is_due s.moment) s.startup.attempts ≡ o →
      R (item_left s (after_due_of s.startup s.moment o) (first_that_stands (attempt_item (due_of s.startup s.moment o) ∷ session_item s.moment (due_row s) ∷ [])))
  item_walked None is = session_walked (after_due_of s.startup s.moment None) (due_row s) refl
  item_walked (Some e) is = attempt_walked e (first_is_there (is_due s.moment) s.startup.attempts e is).0 (is_over s.moment e.1) refl

  pub tick_walked : R (tick_once s)
  tick_walked = subst R (item_is s (first_due s)) (item_walked (lowest (is_due s.moment) s.startup.attempts) refl)

-- ---- one after another

module _ {P : State → Did → Type 0} (steps : Steps P) where
  module _ (acks : (s : State) (near : ℕ) (row : Row) → get s.sessions near ≡ Some row → owes_by (Some row) ≡ true → P s (acked_by s near (Some row))) where
    acked_by_walked : (s : State) (near : ℕ) (o : Option Row) → get s.sessions near ≡ o → owes_by o ≡ true → P s (acked_by s near o)
    acked_by_walked s near None is owed = steps.does_nothing s
    acked_by_walked s near (Some row) is owed = acks s near row is owed

    acked_if_walked : (s : State) (near : ℕ) (next : State → Did) → ((t : State) → P t (next t)) → (b : Bool) → owes_by (get s.sessions near) ≡ b → P s (acked_if s near b next)
    acked_if_walked s near next later false is = steps.does_nothing s
    acked_if_walked s near next later true is =
        let d : Did = acked_by s near (get s.sessions near) in
        steps.and_then s d (next d.state) (acked_by_walked s near (get s.sessions near) refl is) (later d.state)

    acked_in_walked : (count : ℕ) (s : State) (near : ℕ) → P s (acked_in count s near)
    acked_in_walked zero s near = steps.does_nothing s
    acked_in_walked (suc count) s near = acked_if_walked s near (λ t. acked_in count t near) (λ t. acked_in_walked count t near) (owes_by (get s.sessions near)) refl

    pub acked_walked : (count : ℕ) (s : State) (place : Place) → P s (acked count s place)
    acked_walked count s (Startup generation) = steps.does_nothing s
    acked_walked count s (Attempt near generation) = steps.does_nothing s
    acked_walked count s (Session near) = acked_in_walked count s near

  module _ (gives_up : (s : State) (near : ℕ) (row : Row) → get s.sessions near ≡ Some row → P s (nothing (unowed_by s near (Some row)))) where
    unowed_by_walked : (s : State) (near : ℕ) (o : Option Row) → get s.sessions near ≡ o → P s (nothing (unowed_by s near o))
    unowed_by_walked s near None is = steps.does_nothing s
    unowed_by_walked s near (Some row) is = gives_up s near row is

    pub unowed_walked : (s : State) (place : Place) → P s (nothing (unowed s place))
    unowed_walked s (Startup generation) = steps.does_nothing s
    unowed_walked s (Attempt near generation) = steps.does_nothing s
    unowed_walked s (Session near) = unowed_by_walked s near (get s.sessions near) refl

  module _ (loses : (s : State) (near : ℕ) (row : Row) → get s.sessions near ≡ Some row → P s (nothing (late_at s near (Some row)))) (tick : (s : State) → P s (tick_once s)) where
    late_walked : (s : State) (near : ℕ) (o : Option Row) → get s.sessions near ≡ o → P s (nothing (late_at s near o))
    late_walked s near None is = steps.does_nothing s
    late_walked s near (Some row) is = loses s near row is

    late_each_walked : (ids : List ℕ) (s : State) → P s (nothing (late_each ids s))
    late_each_walked [] s = steps.does_nothing s
    late_each_walked (near ∷ rest) s =
        let t : State = late_at s near (get s.sessions near) in
        steps.and_then s (nothing t) (nothing (late_each rest t)) (late_walked s near (get s.sessions near) refl) (late_each_walked rest t)

    ticks_walked : (count : ℕ) (s : State) → P s (ticks count s)
    ticks_walked zero s = steps.does_nothing s
    ticks_walked (suc count) s = steps.and_then s (tick_once s) (ticks count (tick_once s).state) (tick s) (ticks_walked count (tick_once s).state)

    pub tick_all_walked : (count : ℕ) (s : State) → P s (ticks count (all_late s))
    tick_all_walked count s = steps.and_then s (nothing (all_late s)) (ticks count (all_late s)) (late_each_walked (keys s.sessions) s) (ticks_walked count (all_late s))
