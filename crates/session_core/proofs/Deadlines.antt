-- What is due of a session is past its deadline.
use Rattle.std.proofs.Common.{◌≡◌, ℕ, ◌+◌, ◌^◌, ◌<◌, [], ◌∷◌, Bool, true, false, ◌||◌, ◌&&◌, is_some, min, max, Option, None, Some, refl, ap, ◌∙◌, arith}
use Rattle.std.specs.Prelude.{nat_le}
use Rattle.std.proofs.lemmas.Bool.Decides.{nat_tests}
use Rattle.rtmfp_base.specs.Reasons.{where_true, first_that_stands}
use Rattle.session_core.specs.declared.stage.Stage.{Stage}
use Rattle.session_core.specs.declared.stage.Stage.TheVariants.{Opening, Open, NearClose, FarLinger, Closed}
use Rattle.session_core.specs.declared.stage.SessionDue.TheVariants.{Unconfirmed, Idle, Over, RepeatClose}
use Rattle.session_core.specs.Session.{SessionState}
use Rattle.session_core.specs.Closing.{is_past, is_past_last}
use Rattle.session_core.specs.Deadline.{IsDueByDeadline, deadline_at, is_own_due, after_last}

past_is : (span at moment : ℕ) → 0 < span → nat_le (at + span) moment ≡ is_past span at moment
past_is span at moment some = grind (arith, nat_tests)

last_is : (span moment : ℕ) (last : Option ℕ) → 0 < span → nat_le (after_last span last) moment ≡ is_past_last span last moment
last_is span moment None some = grind (arith, nat_tests)
last_is span moment (Some at) some = past_is span at moment some

first_is : (a b moment : ℕ) → nat_le (min a b) moment ≡ (nat_le a moment || nat_le b moment)
first_is a b moment = grind (arith, nat_tests)

both_are : (a b moment : ℕ) → nat_le (max a b) moment ≡ (nat_le a moment && nat_le b moment)
both_are a b moment = grind (arith, nat_tests)

-- what is due in each stage, by the tests alone

half_open : (p : Bool) → p ≡ (is_some (first_that_stands (where_true p Unconfirmed ∷ None ∷ None ∷ None ∷ [])) || false)
half_open true = refl
half_open false = refl

at_open : (a b c : Bool) → (a || (b && c)) ≡ (is_some (first_that_stands (where_true a Idle ∷ None ∷ None ∷ [])) || (b && c))
at_open true b c = refl
at_open false b c = refl

at_close : (a b : Bool) → (a || b) ≡ (is_some (first_that_stands (where_true (a || false) Over ∷ where_true b RepeatClose ∷ [])) || false)
at_close true b = refl
at_close false true = refl
at_close false false = refl

at_linger : (p : Bool) → p ≡ (is_some (first_that_stands (where_true p Over ∷ None ∷ [])) || false)
at_linger true = refl
at_linger false = refl

at_stage_is : (stage : Stage) (s : SessionState) (moment : ℕ) → moment < 2 ^ 64 → nat_le (deadline_at stage s) moment ≡ is_own_due (record s { stage = stage }) moment
at_stage_is Opening s moment below = past_is 20000 s.since moment (omega arith) ∙ half_open (is_past 20000 s.since moment)
at_stage_is Open s moment below =
    first_is _ _ moment
    ∙ ap (λ (b : Bool). nat_le (s.taken + 120000) moment || b) (both_are _ _ moment)
    ∙ ap (λ (a : Bool). a || (nat_le (s.taken + 10000) moment && nat_le (after_last 10000 s.keepalive) moment)) (past_is 120000 s.taken moment (omega arith))
    ∙ ap (λ (b : Bool). is_past 120000 s.taken moment || (b && nat_le (after_last 10000 s.keepalive) moment)) (past_is 10000 s.taken moment (omega arith))
    ∙ ap (λ (c : Bool). is_past 120000 s.taken moment || (is_past 10000 s.taken moment && c)) (last_is 10000 moment s.keepalive (omega arith))
    ∙ at_open (is_past 120000 s.taken moment) (is_past 10000 s.taken moment) (is_past_last 10000 s.keepalive moment)
at_stage_is NearClose s moment below =
    first_is _ _ moment
    ∙ ap (λ (a : Bool). a || nat_le (after_last 5000 s.close_sent) moment) (past_is 90000 s.since moment (omega arith))
    ∙ ap (λ (b : Bool). is_past 90000 s.since moment || b) (last_is 5000 moment s.close_sent (omega arith))
    ∙ at_close (is_past 90000 s.since moment) (is_past_last 5000 s.close_sent moment)
at_stage_is FarLinger s moment below = past_is 19000 s.since moment (omega arith) ∙ at_linger (is_past 19000 s.since moment)
at_stage_is Closed s moment below = grind (arith, nat_tests)

pub is_due_by_deadline : IsDueByDeadline
is_due_by_deadline s moment below = at_stage_is s.stage s moment below
