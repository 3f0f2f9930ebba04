-- How sessions end, and what is due of them.
use Rattle.std.specs.Prelude.{ℕ, ◌-◌, [], ◌∷◌, Bool, true, false, ◌||◌, ◌&&◌, nat_le, if◌then◌else◌, Option, None, Some}
use Rattle.rtmfp_base.specs.Reasons.{where_true, first_that_stands}
use Rattle.session_core.specs.declared.stage.Stage.{Stage}
use Rattle.session_core.specs.declared.stage.Stage.TheVariants.{Opening, Open, NearClose, FarLinger, Closed}
use Rattle.session_core.specs.declared.stage.SessionDue.{SessionDue}
use Rattle.session_core.specs.declared.stage.SessionDue.TheVariants.{Unconfirmed, Idle, Over, RepeatClose}
use Rattle.session_core.specs.Session.{SessionState, is_opening}
use Rattle.session_core.specs.Congestion.{grown, shrunk}

abbrev pub is_open : Stage → Bool
is_open Opening = false
is_open Open = true
is_open NearClose = false
is_open FarLinger = false
is_open Closed = false

abbrev pub is_near_close : Stage → Bool
is_near_close Opening = false
is_near_close Open = false
is_near_close NearClose = true
is_near_close FarLinger = false
is_near_close Closed = false

abbrev pub is_far_linger : Stage → Bool
is_far_linger Opening = false
is_far_linger Open = false
is_far_linger NearClose = false
is_far_linger FarLinger = true
is_far_linger Closed = false

-- the session hasn't ended
abbrev pub is_held : Stage → Bool
is_held stage = is_opening stage || is_open stage

-- ---- closing

-- this end closes the session, and sends a close
abbrev pub closed_near : ℕ → SessionState → SessionState
closed_near moment s = if is_held s.stage then
    record s { stage = NearClose; since = moment; close_sent = Some moment } else s

-- the peer asks to close: the session lingers from then on, unless it already does or is over
abbrev pub asked_to_close : ℕ → SessionState → SessionState
asked_to_close moment s = if is_held s.stage || is_near_close s.stage then
    record s { stage = FarLinger; since = moment } else s

abbrev pub ended : SessionState → SessionState
ended s = record s { stage = Closed }

-- the peer's answer to a close
abbrev pub close_answered : SessionState → SessionState
close_answered s = if is_near_close s.stage then ended s else s

-- ---- what is due

-- a moment is at least so many milliseconds after another
abbrev pub is_past : ℕ → ℕ → ℕ → Bool
is_past span at moment = nat_le span (moment - at)

-- the same of the last of some sendings, also where there was none
abbrev pub is_past_last : ℕ → Option ℕ → ℕ → Bool
is_past_last span None moment = true
is_past_last span (Some at) moment = is_past span at moment

-- A session that this end closes is over after 90,000 ms without an answer, one that lingers after
-- 19,000 ms.
abbrev pub is_over : SessionState → ℕ → Bool
is_over s moment = (is_near_close s.stage && is_past 90000 s.since moment)
    || (is_far_linger s.stage && is_past 19000 s.since moment)

-- the first that is due
abbrev pub first_due : SessionState → ℕ → Option SessionDue
first_due s moment =
    first_that_stands (
    where_true (is_opening s.stage && is_past 20000 s.since moment) Unconfirmed
    ∷ where_true (is_open s.stage && is_past 120000 s.taken moment) Idle
    ∷ where_true (is_over s moment) Over
    ∷ where_true (is_near_close s.stage && is_past_last 5000 s.close_sent moment) RepeatClose
    ∷ [])

-- the session once this was found due: it is over, or has sent its close again
abbrev pub after_due : Option SessionDue → ℕ → SessionState → SessionState
after_due None moment s = s
after_due (Some Unconfirmed) moment s = ended s
after_due (Some Idle) moment s = ended s
after_due (Some Over) moment s = ended s
after_due (Some RepeatClose) moment s = record s { close_sent = Some moment }

-- an open session that took nothing for 10,000 ms sends a keepalive, and again after as long
abbrev pub needs_keepalive : SessionState → ℕ → Bool
needs_keepalive s moment = is_open s.stage && is_past 10000 s.taken moment
    && is_past_last 10000 s.keepalive moment

abbrev pub kept_alive : ℕ → SessionState → SessionState
kept_alive moment s = if needs_keepalive s moment then record s { keepalive = Some moment } else s

-- ---- the window

abbrev pub with_acknowledged : ℕ → SessionState → SessionState
with_acknowledged bytes s = record s { congestion = grown bytes s.congestion }

abbrev pub with_loss : Bool → SessionState → SessionState
with_loss by_time s = record s { congestion = shrunk by_time s.congestion }
