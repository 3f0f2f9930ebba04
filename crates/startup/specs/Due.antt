-- What time makes due of the attempts: their repeats, and their ends.
use Rattle.std.specs.Prelude.{ℕ, ◌+◌, ◌==◌, ◌||◌, Bool, nat_le, if◌then◌else◌, List, length, Option, Some, None, min}
use Rattle.rtmfp_forms.specs.Address.{AddressParts}
use Rattle.glare_core.specs.declared.facts.Why.TheVariants.{Expired}
use Rattle.glare_core.specs.declared.facts.Fact.{Fact}
use Rattle.glare_core.specs.declared.facts.Fact.TheVariants.{Ended}
use Rattle.rtmfp_base.specs.Counts.{count_where}
use Rattle.startup.specs.declared.attempt.Stage.{Stage}
use Rattle.startup.specs.declared.attempt.Stage.TheVariants.{Hello, Keying}
use Rattle.startup.specs.declared.answer.Due.{Due}
use Rattle.startup.specs.declared.answer.Due.TheVariants.{Ended as EndDue, Hello as HelloDue, Keying as KeyingDue, Unsought}
use Rattle.startup.specs.State.{AttemptState, StartupState}
use Rattle.startup.specs.declared.aim.Aim.{Aim}
use Rattle.startup.specs.declared.aim.Aim.TheVariants.{AtPeer, ByName}
use Rattle.startup.specs.Aims.{end_of_aim}
use Rattle.startup.specs.Attempts.{lowest, with_attempt, without_attempt_by, hello_spread, keying_under}

-- how many milliseconds stand before the repeat with this number, from the last sending; the last
-- of them stays
abbrev pub gap_of : ℕ → ℕ
gap_of gap =
    if gap == 0 then 1000
    else if gap == 1 then 1500
    else if gap == 2 then 2250
    else if gap == 3 then 3375
    else 5062

-- how many milliseconds an attempt lasts
abbrev pub lifetime : ℕ
lifetime = 95000

abbrev pub is_over : ℕ → AttemptState → Bool
is_over moment a = nat_le (a.start + lifetime) moment

abbrev pub is_repeat_due : ℕ → AttemptState → Bool
is_repeat_due moment a = nat_le (a.last + gap_of a.gap) moment

abbrev pub is_due : ℕ → AttemptState → Bool
is_due moment a = is_over moment a || is_repeat_due moment a

-- a repeat is sent: the next one comes a longer gap later
abbrev pub repeated : AttemptState → ℕ → AttemptState
repeated a moment = record a { last = moment; gap = min (a.gap + 1) 4 }

-- what is sent again: the hellos to all candidates, or the keying, under the attempt's own secret
-- with the own certificate
abbrev pub repeat_under : List ℕ → ℕ → AttemptState → Stage → Due
repeat_under cert near a Hello = HelloDue (hello_spread a a.candidates)
repeat_under cert near a (Keying at cookie under) =
    KeyingDue (keying_under under cert near a at cookie)

abbrev pub repeat_of : StartupState → ℕ → AttemptState → Due
repeat_of s near a = repeat_under s.cert near a a.stage

-- what is done at its end, by what it is towards
abbrev pub due_end : ℕ → Aim → Due
due_end near (AtPeer peer n) = EndDue (Ended peer near Expired)
due_end near (ByName name) = Unsought near

-- the same by the fact with which it ends, which a search hasn't
abbrev pub due_by : ℕ → Option Fact → Due
due_by near None = Unsought near
due_by near (Some fact) = EndDue fact

-- the one thing that is done of an attempt that is due: its end where it is over, and else its
-- repeat
abbrev pub due_of : StartupState → ℕ → Option (ℕ × AttemptState) → Option Due
due_of s moment None = None
due_of s moment (Some e) = Some (if is_over moment e.1 then due_end e.0 e.1.aim
    else repeat_of s e.0 e.1)

abbrev pub after_due_of : StartupState → ℕ → Option (ℕ × AttemptState) → StartupState
after_due_of s moment None = s
after_due_of s moment (Some e) = if is_over moment e.1 then
    without_attempt_by s e.0 (end_of_aim e.0 Expired e.1.aim)
    else with_attempt s e.0 (repeated e.1 moment)

-- what is due first, by rising near id, and what is left after it
abbrev pub due : StartupState → ℕ → Option Due
due s moment = due_of s moment (lowest (is_due moment) s.attempts)

abbrev pub after_due : StartupState → ℕ → StartupState
after_due s moment = after_due_of s moment (lowest (is_due moment) s.attempts)

-- of how many attempts something is due
abbrev pub due_count : ℕ → StartupState → ℕ
due_count moment s = count_where (is_due moment) s.attempts

-- ---- how many datagrams it sends

-- the hellos of an attempt go to all candidates, and its keying to one address
abbrev pub repeats : List AddressParts → Stage → ℕ
repeats candidates Hello = length candidates
repeats candidates (Keying at cookie under) = 1

abbrev pub sends : ℕ → AttemptState → ℕ
sends moment a = if is_over moment a then 0 else repeats a.candidates a.stage

abbrev pub due_sends_of : ℕ → Option (ℕ × AttemptState) → Option ℕ
due_sends_of moment None = None
due_sends_of moment (Some e) = Some (sends moment e.1)

-- how many datagrams the first thing that is due sends; none where nothing is due
abbrev pub due_sends : StartupState → ℕ → Option ℕ
due_sends s moment = due_sends_of moment (lowest (is_due moment) s.attempts)
