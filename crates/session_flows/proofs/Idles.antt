-- Where all sending flows are idle nothing of them is due, and what is kept of flows tells whether all are.
use Prim.Native.Nat.{zero, suc}
use Rattle.std.proofs.Common.{◌≡◌, ℕ, ◌&&◌, ◌||◌, ◌==◌, not, nat_le, is_some, Bool, true, false, cond, if◌then◌else◌, List, [], ◌∷◌, Option, Some, None, map, length, refl, sym, ap, ◌∙◌}
use Rattle.std.specs.Prelude.{slice_get}
use Rattle.std.specs.List.{list_any, find}
use Rattle.std.proofs.lemmas.List.{length-map}
use Rattle.flow_send.specs.Sender.{Sender, is_idle, lost_if_late, lost_late, overdue}
use Rattle.flow_send.specs.Choice.{Choice, chunk_for}
use Rattle.flow_send.specs.Flow.{Flow, with_sender}
use Rattle.flow_send.proofs.Idling.{idle_does_nothing}
use Rattle.session_core.specs.Session.{SessionState}
use Rattle.session_core.specs.Closing.{is_held, is_open}
use Rattle.session_core.specs.Trips.{resend_time}
use Rattle.session_flows.specs.declared.kept.Kept.{Kept}
use Rattle.session_flows.specs.declared.pace.Pace.{Pace}
use Rattle.flow_turns.specs.Busy.{HasAny}
use Rattle.session_flows.specs.Keeping.{FlowsState, is_busy, may_be_due, with_sending}
use Rattle.session_flows.specs.Timing.{has_late, has_overdue, losing, after_late, overdue_of}
use Rattle.session_flows.specs.Packing.{before_other, first_to_send, goes_by, may_send, pace_of}
use Rattle.session_flows.specs.Kept.{is_busy_of, IsKept}
use Rattle.session_flows.specs.Laws.{IdleHaveNothingDue}

first_none : (a b : Bool) → (a || b) ≡ false → a ≡ false
first_none true b e = absurd cc
first_none false b e = refl

rest_none : (a b : Bool) → (a || b) ≡ false → b ≡ false
rest_none true b e = absurd cc
rest_none false b e = e

unless_not : (b : Bool) → not b ≡ false → b ≡ true
unless_not true e = refl
unless_not false e = absurd cc

abbrev none_busy : List Flow → Type 0
none_busy fs = list_any is_busy fs ≡ false

idle_first : (f : Flow) (later : List Flow) → none_busy (f ∷ later) → is_idle f.sender ≡ true
idle_first f later e = unless_not (is_idle f.sender) (first_none (is_busy f) (list_any is_busy later) e)

idle_rest : (f : Flow) (later : List Flow) → none_busy (f ∷ later) → none_busy later
idle_rest f later e = rest_none (is_busy f) (list_any is_busy later) e

-- ---- nothing is due of idle flows

none_late : (moment resend : ℕ) (fs : List Flow) → none_busy fs → list_any (has_late moment resend) fs ≡ false
none_late moment resend [] e = refl
none_late moment resend (f ∷ later) e =
    ap (λ (b : Bool). b || list_any (has_late moment resend) later) (idle_does_nothing moment resend f.sender (idle_first f later e)).late
    ∙ none_late moment resend later (idle_rest f later e)

none_change : (moment resend : ℕ) (fs : List Flow) → none_busy fs → map (losing moment resend) fs ≡ fs
none_change moment resend [] e = refl
none_change moment resend (f ∷ later) e =
    ap (λ (s : Sender). with_sender f s ∷ map (losing moment resend) later) (idle_does_nothing moment resend f.sender (idle_first f later e)).stays
    ∙ ap (λ (l : List Flow). f ∷ l) (none_change moment resend later (idle_rest f later e))

none_overdue : (moment : ℕ) (fs : List Flow) → none_busy fs → find (has_overdue moment) fs ≡ None
none_overdue moment [] e = refl
none_overdue moment (f ∷ later) e =
    ap (λ (b : Bool). cond b (Some f) (find (has_overdue moment) later)) (ap (λ (o : Option ℕ). is_some o) (idle_does_nothing moment 0 f.sender (idle_first f later e)).overdue)
    ∙ none_overdue moment later (idle_rest f later e)

none_sends : (pace : Pace) (fs : List Flow) → none_busy fs → first_to_send pace fs ≡ None
none_sends pace [] e = refl
none_sends pace (f ∷ later) e =
    let never : may_send pace f ≡ false = ap (λ (o : Choice). is_some (chunk_for f.sender o)) (idle_does_nothing pace.moment pace.resend_after f.sender (idle_first f later e)).sends in
    ap (λ (b : Bool). cond b (Some (before_other f (first_to_send pace later))) (first_to_send pace later)) never
    ∙ none_sends pace later (idle_rest f later e)

and_none : (a b : Bool) → b ≡ false → (a && b) ≡ false
and_none true b e = e
and_none false b e = refl

same_if : (held : Bool) (x s : FlowsState) → x ≡ s → (if held then x else s) ≡ s
same_if true x s e = e
same_if false x s e = refl

found_if : (held : Bool) (o : Option (ℕ × ℕ)) → o ≡ None → ◌≡◌ {A = Option (ℕ × ℕ)} (if held then o else None) None
found_if true o e = e
found_if false o e = refl

pub idle_have_nothing_due : IdleHaveNothingDue
idle_have_nothing_due session s moment e = record {
  late = and_none (is_held session.stage) _ (none_late moment (resend_time session.trip) s.sending e);
  stays = same_if (is_held session.stage) _ s (ap (with_sending s) (none_change moment (resend_time session.trip) s.sending e));
  overdue = found_if (is_held session.stage) _ (ap (overdue_of moment) (none_overdue moment s.sending e));
  sends = and_none (is_open session.stage) _ (ap (goes_by (pace_of session moment) s.sending) (none_sends (pace_of session moment) s.sending e));
}

-- ---- what is lost by time leaves flows as busy

idle_late : (moment resend : ℕ) (s : Sender) → is_idle (lost_late moment resend s) ≡ is_idle s
idle_late moment resend s = ap (λ (n : ℕ). (n == 0) && ((length s.waiting == 0) && nat_le s.forward s.upto)) (length-map s.rows (lost_if_late moment resend))

busy_late : (moment resend : ℕ) (fs : List Flow) → list_any is_busy (map (losing moment resend) fs) ≡ list_any is_busy fs
busy_late moment resend [] = refl
busy_late moment resend (f ∷ later) =
    ap (λ (b : Bool). not b || list_any is_busy (map (losing moment resend) later)) (idle_late moment resend f.sender)
    ∙ ap (λ (b : Bool). is_busy f || b) (busy_late moment resend later)

due_if : (held : Bool) (x s : FlowsState) → may_be_due x ≡ may_be_due s → may_be_due (if held then x else s) ≡ may_be_due s
due_if true x s e = e
due_if false x s e = refl

pub late_may_be_due : (session : SessionState) (s : FlowsState) (moment : ℕ) → may_be_due (after_late session s moment) ≡ may_be_due s
late_may_be_due session s moment = due_if (is_held session.stage) _ s (busy_late moment (resend_time session.trip) s.sending)

-- ---- what is kept tells whether all are idle

or_second : (a b : Bool) → b ≡ true → (a || b) ≡ true
or_second true b e = refl
or_second false b e = e

some_busy : (fs : List Flow) (at : ℕ) → is_busy_of (slice_get fs at) ≡ true → list_any is_busy fs ≡ true
some_busy [] at e = absurd cc
some_busy (f ∷ later) zero e = ap (λ (b : Bool). b || list_any is_busy later) e
some_busy (f ∷ later) (suc at) e = or_second (is_busy f) (list_any is_busy later) (some_busy later at e)

all_idle : (fs : List Flow) → ((at : ℕ) → is_busy_of (slice_get fs at) ≡ false) → list_any is_busy fs ≡ false
all_idle [] h = refl
all_idle (f ∷ later) h = ap (λ (b : Bool). b || list_any is_busy later) (h 0) ∙ all_idle later (λ at. h (suc at))

pub any_busy_is : (fs : List Flow) (k : Kept) (b : Bool) → IsKept fs k → HasAny k.busy b → b ≡ list_any is_busy fs
any_busy_is fs k true h one = sym (some_busy fs one.id (sym (h.busy one.id) ∙ one.there))
any_busy_is fs k false h none = sym (all_idle fs (λ at. sym (h.busy at) ∙ none at))
