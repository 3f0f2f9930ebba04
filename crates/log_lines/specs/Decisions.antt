-- What is answered of each line, by the call, and by what is held, stands and is known.
use Rattle.std.specs.Prelude.{ℕ, List, [], ◌∷◌, ◌+◌, ◌==◌, nat_lt, nat_le, Bool, true, false, not, ◌&&◌, Option, Some, None, is_none}
use Rattle.std.specs.Str.{bytes_eq}
use Rattle.std.specs.FinMap.{get}
use Rattle.identity.specs.Order.{is_above}
use Rattle.glare_core.specs.declared.facts.Why.{Why}
use Rattle.glare_core.specs.declared.facts.Why.TheVariants.{Cancelled, Expired, Glare, Override, Unconfirmed, Near, Far, Idle}
use Rattle.glare_core.specs.declared.facts.Fact.{Fact}
use Rattle.glare_core.specs.declared.facts.Fact.TheVariants.{Started, Born, Opened, Confirmed, Ended}
use Rattle.glare_core.specs.declared.facts.Held.{Held}
use Rattle.glare_core.specs.declared.facts.Held.TheVariants.{Opening, HalfOpen}
use Rattle.glare_core.specs.declared.facts.Joined.{Joined}
use Rattle.glare_core.specs.Ledger.{row_in}
use Rattle.glare_core.specs.Things.{near_of}
use Rattle.fact_digest.specs.Roll.{Rolled}
use Rattle.endpoint_model.specs.declared.entry.Entry.{Entry}
use Rattle.endpoint_model.specs.Views.{fact_in}
use Rattle.endpoint_laws.specs.Lawful.{lifetime}
use Rattle.log_digest.specs.declared.spot.Spot.{Spot}
use Rattle.log_digest.specs.declared.spot.Spot.TheVariants.{Searching, Holding, Closing}
use Rattle.log_digest.specs.Kept.{Digested}
use Rattle.log_digest.specs.Generations.{Known}
use Rattle.log_values.specs.declared.log.LoggedCall.{LoggedCall}
use Rattle.log_values.specs.declared.log.LoggedCall.TheVariants.{Open as OpenCall, Seek as SeekCall, Cancel as CancelCall, Unseek as UnseekCall, Close as CloseCall, Learn as LearnCall, Advance as AdvanceCall, Tick as TickCall}

-- ---- calls

abbrev pub is_tick : LoggedCall → Bool
is_tick TickCall = true
is_tick call = false

abbrev pub learns : LoggedCall → Bool
learns (LearnCall secret) = true
learns call = false

abbrev pub advances : LoggedCall → Bool
advances AdvanceCall = true
advances call = false

-- an open of an event with this nonce
abbrev pub opens : List ℕ → LoggedCall → List ℕ → List ℕ → Bool
opens nonce (OpenCall to tag) peer ni = bytes_eq to peer && bytes_eq ni nonce
opens nonce call peer ni = false

abbrev pub seeks : LoggedCall → List ℕ → Bool
seeks (SeekCall sought tag) name = bytes_eq sought name
seeks call name = false

abbrev pub cancels : LoggedCall → ℕ → Bool
cancels (CancelCall m) n = m == n
cancels call n = false

abbrev pub unseeks : LoggedCall → ℕ → Bool
unseeks (UnseekCall id) near = id == near
unseeks call near = false

abbrev pub closes : LoggedCall → ℕ → Bool
closes (CloseCall id) near = id == near
closes call near = false

-- ---- what a fact asks of the facts before it

abbrev pub is_attempt : Held → Bool
is_attempt (Opening n near ni) = true
is_attempt thing = false

abbrev pub is_session : Held → Bool
is_session (Opening n near ni) = false
is_session thing = true

abbrev pub is_half_open : Held → Bool
is_half_open (HalfOpen j) = true
is_half_open thing = false

abbrev pub is_kept : Held → Bool
is_kept (Opening n near ni) = false
is_kept (HalfOpen j) = false
is_kept thing = true

-- whether the cause may end this thing, at this end and with this peer
abbrev pub may_end : List ℕ → List ℕ → Why → Held → Bool
may_end own peer Cancelled thing = is_attempt thing
may_end own peer Expired thing = is_attempt thing
may_end own peer Glare thing = is_attempt thing && is_above peer own
may_end own peer Override thing = is_session thing
may_end own peer Unconfirmed thing = is_half_open thing
may_end own peer Near thing = is_session thing
may_end own peer Far thing = is_session thing
may_end own peer Idle thing = is_kept thing

-- whether an attempt starts, after so many, where this is held with its peer
abbrev pub may_start : List ℕ → ℕ → Option Held → List ℕ → ℕ → Bool
may_start own started before peer n =
    not (bytes_eq peer own) && (is_none before && (n == started + 1))

-- whether a session is born, after so many attempts, where this is held with its peer and this was
-- the greatest number seen of it
abbrev pub may_bear : ℕ → ℕ → Option Held → Joined → Bool
may_bear started seen before j = nat_lt seen j.n && (is_none before && (j.k == started))

-- whether the attempt that is held is that of these values
abbrev pub is_attempt_of : Joined → Option Held → Bool
is_attempt_of j (Some (Opening n near ni)) =
    (n == j.n) && ((near == j.near) && bytes_eq ni j.ni)
is_attempt_of j before = false

-- whether a half-open session is held under this session ID
abbrev pub is_half_open_under : ℕ → Option Held → Bool
is_half_open_under near (Some (HalfOpen j)) = near == j.near
is_half_open_under near before = false

-- whether what is held ends so
abbrev pub may_end_held : List ℕ → List ℕ → ℕ → Why → Option Held → Bool
may_end_held own peer near why None = false
may_end_held own peer near why (Some thing) = (near == near_of thing) && may_end own peer why thing

-- what is held with a peer
abbrev pub held_with : Rolled → List ℕ → Option Held
held_with roll peer = (row_in roll.rows peer).held

abbrev pub is_standing : List ℕ → Rolled → Fact → Bool
is_standing own roll (Started peer n near ni) =
    may_start own roll.started (held_with roll peer) peer n
is_standing own roll (Born j) =
    may_bear roll.started (row_in roll.rows j.peer).floor (held_with roll j.peer) j
is_standing own roll (Opened j) = is_attempt_of j (held_with roll j.peer)
is_standing own roll (Confirmed peer near) = is_half_open_under near (held_with roll peer)
is_standing own roll (Ended peer near why) = may_end_held own peer near why (held_with roll peer)

-- ---- moments

-- whether so many milliseconds went by since a moment, where there is one
abbrev pub is_over : ℕ → Option ℕ → ℕ → Bool
is_over span None now = false
is_over span (Some at) now = nat_le (at + span) now

-- whether they went by since the last moment, if there was one
abbrev pub is_quiet : ℕ → Option ℕ → ℕ → Bool
is_quiet span None now = true
is_quiet span (Some last) now = nat_le (last + span) now

-- since when something is held under a session ID, and since when a session closes there
abbrev pub held_since : Option Spot → Option ℕ
held_since (Some (Holding peer at)) = Some at
held_since spot = None

abbrev pub closing_since : Option Spot → Option ℕ
closing_since (Some (Closing thing at)) = Some at
closing_since spot = None

-- whether what is held under a session ID began so many milliseconds ago
abbrev pub is_old : ℕ → ℕ → Digested → Bool
is_old span near d = is_over span (held_since (get d.spots near)) d.moment

-- ---- the lines of facts

abbrev pub is_unused : ℕ → Digested → Bool
is_unused near d = not (near == 0) && is_none (get d.spots near)

-- the attempt is held that the call gives up
abbrev pub is_cancelled : LoggedCall → Option Held → Bool
is_cancelled call (Some (Opening n near ni)) = cancels call n
is_cancelled call before = false

-- an attempt is held under this session ID, and is old
abbrev pub is_overdue : Digested → ℕ → Option Held → Bool
is_overdue d near (Some (Opening n id ni)) = (id == near) && is_old lifetime id d
is_overdue d near before = false

-- so many milliseconds after its birth, a half-open session ends
abbrev pub confirming_time : ℕ
confirming_time = 20000

-- so many milliseconds after it began or took a datagram, a kept session ends
abbrev pub idle_time : ℕ
idle_time = 120000

-- so many milliseconds after it was closed, a session is over
abbrev pub closing_time : ℕ
closing_time = 19000

-- a half-open session is held, and is old
abbrev pub is_unconfirmed : Digested → Option Held → Bool
is_unconfirmed d (Some (HalfOpen j)) = is_old confirming_time j.near d
is_unconfirmed d before = false

-- a session is held, and is old
abbrev pub is_old_session : Digested → Option Held → Bool
is_old_session d None = false
is_old_session d (Some thing) = is_session thing && is_old idle_time (near_of thing) d

abbrev pub is_idle : Digested → Option Held → Option ℕ → Bool
is_idle d before last = is_old_session d before && is_quiet idle_time last d.moment

-- the fact is a birth of this peer
abbrev pub is_birth : List ℕ → Option Fact → Bool
is_birth peer (Some (Born j)) = bytes_eq j.peer peer
is_birth peer fact = false

-- the next entry is one
abbrev pub is_birth_next : List ℕ → List Entry → Bool
is_birth_next peer [] = false
is_birth_next peer (entry ∷ rest) = is_birth peer (fact_in entry)

-- The line of an Ended, where its cause hangs on no datagram.
abbrev pub is_ended : Digested → LoggedCall → List Entry → List ℕ → ℕ → Why → Bool
is_ended d call rest peer near Cancelled = is_cancelled call (held_with d.roll peer)
is_ended d call rest peer near Expired =
    is_tick call && is_overdue d near (held_with d.roll peer)
is_ended d call rest peer near Glare = is_birth_next peer rest
is_ended d call rest peer near Override = is_birth_next peer rest
is_ended d call rest peer near Unconfirmed =
    is_tick call && is_unconfirmed d (held_with d.roll peer)
is_ended d call rest peer near Near = closes call near
is_ended d call rest peer near Far = false
is_ended d call rest peer near Idle = false

-- ---- the lines of closings, searches and generations

abbrev pub is_closed : Digested → LoggedCall → ℕ → Bool
is_closed d call near =
    is_tick call && is_over closing_time (closing_since (get d.spots near)) d.moment

-- a search that began at this moment ends so
abbrev pub search_ends : LoggedCall → ℕ → ℕ → ℕ → Why → Bool
search_ends call near at now Cancelled = unseeks call near
search_ends call near at now Expired = is_tick call && nat_le (at + lifetime) now
search_ends call near at now why = false

abbrev pub is_search_over : LoggedCall → ℕ → ℕ → Why → Option Spot → Bool
is_search_over call near now why (Some (Searching name tag ni at)) =
    search_ends call near at now why
is_search_over call near now why spot = false

abbrev pub is_learnt : LoggedCall → Known → ℕ → Bool
is_learnt call k generation =
    learns call && (is_none k.next && (generation == k.current + 1))

abbrev pub is_next : Option ℕ → ℕ → Bool
is_next None generation = false
is_next (Some next) generation = next == generation

abbrev pub is_advanced : LoggedCall → Known → ℕ → Bool
is_advanced call k generation = advances call && is_next k.next generation
