-- What a list of calls leads to.
use Rattle.std.proofs.Common.{◌≡◌, ℕ, ◌+◌, ◌-◌, ◌≤◌, List, [], ◌∷◌, Bool, true, false, if◌then◌else◌, Option, None, Some, refl, ap, ◌∙◌, arith}
use Rattle.std.proofs.lemmas.Grind.{common_steps}
use Rattle.std.specs.Prelude.{nat_le, ◌&&◌}
use Rattle.session_core.specs.declared.stage.Stage.{Stage}
use Rattle.session_core.specs.declared.stage.Stage.TheVariants.{Opening, Open, NearClose, FarLinger, Closed}
use Rattle.session_core.specs.declared.stage.SessionDue.{SessionDue}
use Rattle.session_core.specs.declared.stage.SessionDue.TheVariants.{Unconfirmed, Idle, Over, RepeatClose}
use Rattle.crypto_profile.specs.Window.{window_after}
use Rattle.session_core.specs.Session.{SessionState}
use Rattle.session_core.specs.Hearing.{opens_in, count_of}
use Rattle.session_core.specs.Sealed.{is_spent}
use Rattle.session_core.specs.Closing.{after_due, first_due, is_past_last}
use Rattle.session_core.specs.Calls.{CourseIsByTheTable, Call, Hear, TakeNumber, Seal, MoveTo, Confirm, TakeStamps, Close, TakeCloseRequest, TakeCloseAck, Due, Keepalive, Acknowledge, Lose, after_call, after_calls, folded, is_late, course_of, course_step}

-- ---- by induction over the list

pub by_calls : {A : Type 0} (value : SessionState → A) (step : Call → A → A) → ((s : SessionState) (call : Call) → value (after_call s call) ≡ step call (value s))
    → (s : SessionState) (calls : List Call) → value (after_calls s calls) ≡ folded step (value s) calls
by_calls value step once s [] = refl
by_calls value step once s (call ∷ earlier) = once (after_calls s earlier) call ∙ ap (step call) (by_calls value step once s earlier)

pub kept_by_calls : {A : Type 0} (value : SessionState → A) → ((s : SessionState) (call : Call) → value (after_call s call) ≡ value s)
    → (s : SessionState) (calls : List Call) → value (after_calls s calls) ≡ value s
kept_by_calls value once s [] = refl
kept_by_calls value once s (call ∷ earlier) = once (after_calls s earlier) call ∙ kept_by_calls value once s earlier

-- ---- a value that neither side of a test changes

pub unchanged_if : {A : Type 0} (value : SessionState → A) (test : Bool) (x s : SessionState) → value x ≡ value s → value (if test then x else s) ≡ value s
unchanged_if value true x s same = same
unchanged_if value false x s same = refl

pub unchanged_due : {A : Type 0} (value : SessionState → A) (s : SessionState) (moment : ℕ)
    → value (record s { stage = Closed }) ≡ value s → value (record s { close_sent = Some moment }) ≡ value s
    → (due : Option SessionDue) → value (after_due due moment s) ≡ value s
unchanged_due value s moment over sent None = refl
unchanged_due value s moment over sent (Some Unconfirmed) = over
unchanged_due value s moment over sent (Some Idle) = over
unchanged_due value s moment over sent (Some Over) = over
unchanged_due value s moment over sent (Some RepeatClose) = sent

-- ---- moments

-- so long after a moment, as a sum
pub past_as_sum : (span at moment : ℕ) → 1 ≤ span → nat_le span (moment - at) ≡ nat_le (at + span) moment
past_as_sum span at moment some = grind (arith, common_steps)

pub late_as_sum : (span : ℕ) (last : Option ℕ) (moment : ℕ) → 1 ≤ span → is_past_last span last moment ≡ is_late span last moment
late_as_sum span None moment some = refl
late_as_sum span (Some at) moment some = past_as_sum span at moment some

-- ---- one call

after_opening : (b : Bool) (s : SessionState) (moment : ℕ) → course_of (after_due (if b then Some Unconfirmed else None) moment s) ≡ (if b then record (course_of s) { stage = Closed } else course_of s)
after_opening true s moment = refl
after_opening false s moment = refl

due_opening : (b : Bool) (s : SessionState) (moment : ℕ) → nat_le 20000 (moment - s.since) ≡ b → first_due (record s { stage = Opening }) moment ≡ (if b then Some Unconfirmed else None)
due_opening true s moment e = rw e refl
due_opening false s moment e = rw e refl

due_open : (b : Bool) (s : SessionState) (moment : ℕ) → nat_le 120000 (moment - s.taken) ≡ b → first_due (record s { stage = Open }) moment ≡ (if b then Some Idle else None)
due_open true s moment e = rw e refl
due_open false s moment e = rw e refl

due_lingering : (b : Bool) (s : SessionState) (moment : ℕ) → nat_le 19000 (moment - s.since) ≡ b → first_due (record s { stage = FarLinger }) moment ≡ (if b then Some Over else None)
due_lingering true s moment e = rw e refl
due_lingering false s moment e = rw e refl

due_closing : (over late : Bool) (s : SessionState) (moment : ℕ) → nat_le 90000 (moment - s.since) ≡ over → is_past_last 5000 s.close_sent moment ≡ late
    → first_due (record s { stage = NearClose }) moment ≡ (if over then Some Over else (if late then Some RepeatClose else None))
due_closing true true s moment e f = rw e refl
due_closing true false s moment e f = rw e refl
due_closing false true s moment e f = rw (e, f) refl
due_closing false false s moment e f = rw (e, f) refl

after_open : (b : Bool) (s : SessionState) (moment : ℕ) → course_of (after_due (if b then Some Idle else None) moment s) ≡ (if b then record (course_of s) { stage = Closed } else course_of s)
after_open true s moment = refl
after_open false s moment = refl

after_lingering : (b : Bool) (s : SessionState) (moment : ℕ) → course_of (after_due (if b then Some Over else None) moment s) ≡ (if b then record (course_of s) { stage = Closed } else course_of s)
after_lingering true s moment = refl
after_lingering false s moment = refl

after_closing : (over late : Bool) (s : SessionState) (moment : ℕ) → course_of (after_due (if over then Some Over else (if late then Some RepeatClose else None)) moment s)
    ≡ (if over then record (course_of s) { stage = Closed } else (if late then record (course_of s) { close_sent = Some moment } else course_of s))
after_closing true late s moment = refl
after_closing false true s moment = refl
after_closing false false s moment = refl

due_step : (stage : Stage) (s : SessionState) (moment : ℕ) → course_of (after_call (record s { stage = stage }) (Due moment)) ≡ course_step (Due moment) (course_of (record s { stage = stage }))
due_step Opening s moment =
    let e : nat_le 20000 (moment - s.since) ≡ nat_le (s.since + 20000) moment = past_as_sum 20000 s.since moment (omega arith) in
    ap (λ (due : Option SessionDue). course_of (after_due due moment (record s { stage = Opening }))) (due_opening (nat_le (s.since + 20000) moment) s moment e)
    ∙ after_opening (nat_le (s.since + 20000) moment) (record s { stage = Opening }) moment
due_step Open s moment =
    let e : nat_le 120000 (moment - s.taken) ≡ nat_le (s.taken + 120000) moment = past_as_sum 120000 s.taken moment (omega arith) in
    ap (λ (due : Option SessionDue). course_of (after_due due moment (record s { stage = Open }))) (due_open (nat_le (s.taken + 120000) moment) s moment e)
    ∙ after_open (nat_le (s.taken + 120000) moment) (record s { stage = Open }) moment
due_step NearClose s moment =
    let e : nat_le 90000 (moment - s.since) ≡ nat_le (s.since + 90000) moment = past_as_sum 90000 s.since moment (omega arith) in
    let f : is_past_last 5000 s.close_sent moment ≡ is_late 5000 s.close_sent moment = late_as_sum 5000 s.close_sent moment (omega arith) in
    ap (λ (due : Option SessionDue). course_of (after_due due moment (record s { stage = NearClose }))) (due_closing (nat_le (s.since + 90000) moment) (is_late 5000 s.close_sent moment) s moment e f)
    ∙ after_closing (nat_le (s.since + 90000) moment) (is_late 5000 s.close_sent moment) (record s { stage = NearClose }) moment
due_step FarLinger s moment =
    let e : nat_le 19000 (moment - s.since) ≡ nat_le (s.since + 19000) moment = past_as_sum 19000 s.since moment (omega arith) in
    ap (λ (due : Option SessionDue). course_of (after_due due moment (record s { stage = FarLinger }))) (due_lingering (nat_le (s.since + 19000) moment) s moment e)
    ∙ after_lingering (nat_le (s.since + 19000) moment) (record s { stage = FarLinger }) moment
due_step Closed s moment = refl

keepalive_if : (test : Bool) (s : SessionState) (moment : ℕ) → course_of (if test then record s { keepalive = Some moment } else s) ≡ (if test then record (course_of s) { keepalive = Some moment } else course_of s)
keepalive_if true s moment = refl
keepalive_if false s moment = refl

keepalive_step : (stage : Stage) (s : SessionState) (moment : ℕ) → course_of (after_call (record s { stage = stage }) (Keepalive moment)) ≡ course_step (Keepalive moment) (course_of (record s { stage = stage }))
keepalive_step Opening s moment = refl
keepalive_step Open s moment =
    let e : nat_le 10000 (moment - s.taken) ≡ nat_le (s.taken + 10000) moment = past_as_sum 10000 s.taken moment (omega arith) in
    let f : is_past_last 10000 s.keepalive moment ≡ is_late 10000 s.keepalive moment = late_as_sum 10000 s.keepalive moment (omega arith) in
    let t : SessionState = record s { stage = Open } in
    ap (λ (past : Bool). course_of (if past && is_past_last 10000 s.keepalive moment then record t { keepalive = Some moment } else t)) e
    ∙ ap (λ (late : Bool). course_of (if nat_le (s.taken + 10000) moment && late then record t { keepalive = Some moment } else t)) f
    ∙ keepalive_if (nat_le (s.taken + 10000) moment && is_late 10000 s.keepalive moment) t moment
keepalive_step NearClose s moment = refl
keepalive_step FarLinger s moment = refl
keepalive_step Closed s moment = refl

staged : (stage : Stage) (s : SessionState) (call : Call) → course_of (after_call (record s { stage = stage }) call) ≡ course_step call (course_of (record s { stage = stage }))
staged stage s (Hear part) = unchanged_if course_of (opens_in (record s { stage = stage }) part) (record s { stage = stage; window = window_after s.window (count_of part) }) (record s { stage = stage }) refl
staged stage s (TakeNumber part) = refl
staged stage s Seal = sealed_stays (is_spent s) (record s { stage = stage })
  where
    sealed_stays : (spent : Bool) (t : SessionState) → course_of (if spent then t else record t { sealed = t.sealed + 1 }) ≡ course_of t
    sealed_stays true t = refl
    sealed_stays false t = refl
staged stage s (MoveTo address) = refl
staged Opening s Confirm = refl
staged Open s Confirm = refl
staged NearClose s Confirm = refl
staged FarLinger s Confirm = refl
staged Closed s Confirm = refl
staged stage s (TakeStamps head moment) = refl
staged Opening s (Close moment) = refl
staged Open s (Close moment) = refl
staged NearClose s (Close moment) = refl
staged FarLinger s (Close moment) = refl
staged Closed s (Close moment) = refl
staged Opening s (TakeCloseRequest moment) = refl
staged Open s (TakeCloseRequest moment) = refl
staged NearClose s (TakeCloseRequest moment) = refl
staged FarLinger s (TakeCloseRequest moment) = refl
staged Closed s (TakeCloseRequest moment) = refl
staged Opening s TakeCloseAck = refl
staged Open s TakeCloseAck = refl
staged NearClose s TakeCloseAck = refl
staged FarLinger s TakeCloseAck = refl
staged Closed s TakeCloseAck = refl
staged stage s (Due moment) = due_step stage s moment
staged stage s (Keepalive moment) = keepalive_step stage s moment
staged stage s (Acknowledge bytes) = refl
staged stage s (Lose by_time) = refl

pub course_is_by_the_table : CourseIsByTheTable
course_is_by_the_table = by_calls course_of course_step (λ s call. staged s.stage s call)
