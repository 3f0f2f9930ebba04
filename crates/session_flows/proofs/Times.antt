-- The first message that is to be abandoned at a tick.
use Rattle.std.proofs.Common.{◌≡◌, ℕ, ◌+◌, ◌<◌, ◌≤◌, Bool, true, false, cond, nat_lt, List, [], ◌∷◌, Option, Some, None, length, refl, ap, ◌∙◌, subst, arith}
use Rattle.std.specs.Prelude.{slice_get, is_some, ◌==◌}
use Rattle.std.specs.List.{find, position, position_or_len}
use Rattle.std.proofs.lemmas.List.Folds.{find_at}
use Rattle.std.proofs.lemmas.Option.{slice_get_past}
use Rattle.std.proofs.lemmas.Bool.{ltb-false, ltb-true}
use Rattle.std.proofs.lemmas.Bool.Decides.{nat_tests}
use Rattle.flow_send.specs.declared.waiting.Waiting.{Waiting}
use Rattle.flow_send.specs.Rows.{Row}
use Rattle.flow_send.specs.Sender.{Sender, overdue, first_overdue as first_of_waiting, is_overdue, message_at, waits}
use Rattle.flow_send.specs.Flow.{Flow}
use Rattle.session_core.specs.Session.{SessionState}
use Rattle.session_core.specs.Closing.{is_held}
use Rattle.session_flows.specs.Keeping.{FlowsState}
use Rattle.session_flows.specs.Calling.{abandon_refused, abandon_refused_by}
use Rattle.session_flows.specs.declared.refusal.CallRefusal.TheVariants.{NotQueued}
use Rattle.session_flows.specs.Laws.{AreNumbered}
use Rattle.session_flows.specs.Timing.{has_overdue, numbered, overdue_of, first_overdue, overdue_in}
use Rattle.session_flows.proofs.Sounds.{numbered_at}

-- of a held session
held_by : (b : Bool) (o : Option (ℕ × ℕ)) → b ≡ true → cond b o None ≡ o
held_by true o e = refl
held_by false o e = absurd cc

-- ---- the flow that has it

none_by : (n len : ℕ) (b : Bool) → nat_lt n len ≡ b → cond b (Some n) None ≡ None → len ≤ n
none_by n len true e h = absurd cc
none_by n len false e h = ltb-false n len e

some_by : (n len at : ℕ) (b : Bool) → cond b (Some n) None ≡ Some at → n ≡ at
some_by n len at true h = cc
some_by n len at false h = absurd cc

within_by : (n len at : ℕ) (b : Bool) → nat_lt n len ≡ b → cond b (Some n) None ≡ Some at → at < len
within_by n len at true e h = subst (λ (i : ℕ). i < len) (some_by n len at true h) (ltb-true n len e)
within_by n len at false e h = absurd cc

pub pos_within : (p : Flow → Bool) (fs : List Flow) (at : ℕ) → position p fs ≡ Some at → at < length fs
pos_within p fs at h = within_by (position_or_len p fs) (length fs) at (nat_lt (position_or_len p fs) (length fs)) refl h

pub none_found : (p : Flow → Bool) (fs : List Flow) → position p fs ≡ None → find p fs ≡ None
none_found p fs h = find_at p fs ∙ slice_get_past fs (position_or_len p fs) (none_by (position_or_len p fs) (length fs) (nat_lt (position_or_len p fs) (length fs)) refl h)

found_at : (p : Flow → Bool) (fs : List Flow) (at : ℕ) → position p fs ≡ Some at → find p fs ≡ slice_get fs at
found_at p fs at h = find_at p fs ∙ ap (λ (i : ℕ). slice_get fs i) (some_by (position_or_len p fs) (length fs) at (nat_lt (position_or_len p fs) (length fs)) h)

pub none_overdue : (session : SessionState) (s : FlowsState) (moment : ℕ) → is_held session.stage ≡ true → position (has_overdue moment) s.sending ≡ None → overdue_in session s moment ≡ None
none_overdue session s moment held h =
    held_by (is_held session.stage) (first_overdue moment s) held ∙ ap (λ (o : Option Flow). overdue_of moment o) (none_found (has_overdue moment) s.sending h)

pub one_overdue : (session : SessionState) (s : FlowsState) (moment at : ℕ) (f : Flow) → is_held session.stage ≡ true → AreNumbered 0 s.sending → position (has_overdue moment) s.sending ≡ Some at →
    slice_get s.sending at ≡ Some f → overdue_in session s moment ≡ numbered at (overdue moment f.sender)
one_overdue session s moment at f held ids h there =
    let id : f.id ≡ 0 + at = numbered_at 0 at s.sending f ids there in
    held_by (is_held session.stage) (first_overdue moment s) held
    ∙ ap (λ (o : Option Flow). overdue_of moment o) (found_at (has_overdue moment) s.sending at h ∙ there)
    ∙ ap (λ (n : ℕ). numbered n (overdue moment f.sender)) (omega arith)

-- ---- it waits

same_number : (a b : ℕ) → a ≡ b → (a == b) ≡ true
same_number a b e = grind (arith, nat_tests)

waits_by : (w : Waiting) (o : Option Waiting) (b : Bool) → is_some o ≡ true → is_some (cond b (Some w) o) ≡ true
waits_by w o true some = refl
waits_by w o false some = some

some_number : (n seq : ℕ) → ◌≡◌ {A = Option ℕ} (Some n) (Some seq) → n ≡ seq
some_number n seq e = cc

first_waits : (moment n : ℕ) (rows : List Row) (w : Waiting) (later : List Waiting) (seq : ℕ) (b : Bool) → cond b (Some w.number) (first_of_waiting moment n rows later) ≡ Some seq →
    (first_of_waiting moment n rows later ≡ Some seq → is_some (message_at seq later) ≡ true) → is_some (message_at seq (w ∷ later)) ≡ true
first_waits moment n rows w later seq true e ih =
    ap (λ (b : Bool). is_some (cond b (Some w) (message_at seq later))) (same_number w.number seq (some_number w.number seq e))
first_waits moment n rows w later seq false e ih = waits_by w (message_at seq later) (w.number == seq) (ih e)

all_waits : (moment n : ℕ) (rows : List Row) (ws : List Waiting) (seq : ℕ) → first_of_waiting moment n rows ws ≡ Some seq → is_some (message_at seq ws) ≡ true
all_waits moment n rows [] seq e = absurd cc
all_waits moment n rows (w ∷ later) seq e = first_waits moment n rows w later seq (is_overdue moment n rows w) e (all_waits moment n rows later seq)

overdue_waits : (moment : ℕ) (s : Sender) (seq : ℕ) → overdue moment s ≡ Some seq → waits s seq ≡ true
overdue_waits moment s seq e = all_waits moment (s.forward + 1) s.rows s.waiting seq e

pub may_abandon : (s : FlowsState) (at moment seq : ℕ) (f : Flow) → slice_get s.sending at ≡ Some f → overdue moment f.sender ≡ Some seq → abandon_refused s at seq ≡ None
may_abandon s at moment seq f there e =
    ap (λ (o : Option Flow). abandon_refused_by o seq) there ∙ ap (λ (b : Bool). cond b None (Some NotQueued)) (overdue_waits moment f.sender seq e)
