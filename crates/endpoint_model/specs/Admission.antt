-- How a datagram is taken, or refused as a whole.
use Rattle.std.specs.Prelude.{ℕ, ◌+◌, ◌-◌, ◌*◌, ◌%◌, ◌==◌, nat_lt, Bool, true, false, if◌then◌else◌, List, [], ◌∷◌, length, drop, Option, Some, None, Result, Ok, Err}
use Rattle.std.specs.FinMap.{get, contains_key}
use Rattle.crypto_profile.specs.declared.group.GroupSecret.{GroupSecret}
use Rattle.crypto_profile.specs.declared.sealing.SealFault.{SealFault}
use Rattle.crypto_profile.specs.Keys.{Keys, startup_keys_of}
use Rattle.crypto_profile.specs.Opening.{open_refusal, plain_of}
use Rattle.packet_scramble.specs.Datagram.{sid_of}
use Rattle.rtmfp_packet.specs.declared.head.PacketHead.{PacketHead}
use Rattle.rtmfp_packet.specs.declared.head.PacketFault.{PacketFault}
use Rattle.rtmfp_packet.specs.declared.head.PacketFault.TheVariants.{Empty, ModeZero, ShortStamp}
use Rattle.rtmfp_packet.specs.declared.head.Mode.{Mode}
use Rattle.rtmfp_packet.specs.declared.head.Mode.TheVariants.{Initiator as FromInitiator, Responder as FromResponder, Startup as FromStartup}
use Rattle.rtmfp_packet.specs.Head.{flag, mode_number}
use Rattle.rtmfp_packet.specs.Walk.{body_of}
use Rattle.rtmfp_packet.specs.Whole.{Whole}
use Rattle.rtmfp_base.specs.declared.cause.Cause.{Cause}
use Rattle.rtmfp_base.specs.declared.cause.Cause.TheVariants.{Short, UnknownSession, BadTag, Repeated, BadPacket, WrongPlace}
use Rattle.session_core.specs.declared.stage.Role.{Role}
use Rattle.session_core.specs.declared.stage.Role.TheVariants.{Initiator, Responder}
use Rattle.session_core.specs.declared.hearing.Unheard.{Unheard}
use Rattle.session_core.specs.declared.hearing.Unheard.TheVariants.{Short as ShortPart, BadTag as WrongTag, Repeated as OldNumber}
use Rattle.session_core.specs.Session.{SessionState, with_stamps, is_opening, confirmed}
use Rattle.session_core.specs.Hearing.{unheard, counted}
use Rattle.startup.specs.declared.attempt.Stage.{Stage}
use Rattle.startup.specs.declared.attempt.Stage.TheVariants.{Hello, Keying}
use Rattle.startup.specs.State.{AttemptState}
use Rattle.startup.specs.Attempts.{confirm_fact, after_confirm}
use Rattle.endpoint_model.specs.declared.place.Place.{Place}
use Rattle.endpoint_model.specs.declared.row.Row.{Row}
use Rattle.endpoint_model.specs.declared.place.Place.TheVariants.{Startup, Attempt, Session}
use Rattle.endpoint_model.specs.State.{State, Did, nothing, fact_entries, with_session, with_startup}

-- ---- how a plain packet reads, as one function

-- the mode that the flags name
abbrev pub mode_in : ℕ → Option Mode
mode_in flags =
    if flags % 4 == 1 then Some FromInitiator
    else if flags % 4 == 2 then Some FromResponder
    else if flags % 4 == 3 then Some FromStartup
    else None

-- a timestamp or an echo of two bytes where it is flagged, and what follows it; none where it isn't
-- there whole
abbrev pub stamp_in : Bool → List ℕ → Option (Option ℕ × List ℕ)
stamp_in false bytes = Some (None, bytes)
stamp_in true [] = None
stamp_in true (high ∷ []) = None
stamp_in true (high ∷ low ∷ rest) = Some (Some (high * 256 + low), rest)

-- the packet of a head and of what follows it
abbrev pub whole_from : List ℕ → PacketHead → List ℕ → Whole
whole_from bytes head body = record {
  head = head;
  start = length bytes - length body;
  chunks = (body_of body).chunks;
  padding = (body_of body).padding;
}

abbrev pub with_echo : List ℕ → ℕ → Mode → Option ℕ → Option (Option ℕ × List ℕ) →
    Result Whole PacketFault
with_echo bytes flags mode stamp None = Err ShortStamp
with_echo bytes flags mode stamp (Some echo) =
    Ok (whole_from bytes (record {
      critical = flag flags 7;
      reverse = flag flags 6;
      stamp = stamp;
      echo = echo.0;
      mode = mode;
    }) echo.1)

abbrev pub with_stamp : List ℕ → ℕ → Mode → Option (Option ℕ × List ℕ) → Result Whole PacketFault
with_stamp bytes flags mode None = Err ShortStamp
with_stamp bytes flags mode (Some stamp) = with_echo bytes flags mode stamp.0
    (stamp_in (flag flags 2) stamp.1)

abbrev pub with_mode : List ℕ → ℕ → List ℕ → Option Mode → Result Whole PacketFault
with_mode bytes flags rest None = Err ModeZero
with_mode bytes flags rest (Some mode) = with_stamp bytes flags mode (stamp_in (flag flags 3) rest)

unfoldable pub packet_in : List ℕ → Result Whole PacketFault
packet_in [] = Err Empty
packet_in (flags ∷ rest) = with_mode (flags ∷ rest) flags rest (mode_in flags)

-- ---- the group's secret by its generation

-- the one that an attempt sends and takes in: its own in the keying stage, and else the current one
abbrev pub stage_group : GroupSecret → Stage → GroupSecret
stage_group current Hello = current
stage_group current (Keying at cookie under) = under

abbrev pub attempt_group : GroupSecret → Option AttemptState → GroupSecret
attempt_group current None = current
attempt_group current (Some a) = stage_group current a.stage

-- the next one where it has this number, and else the current one
abbrev pub known_group : ℕ → Option GroupSecret → GroupSecret → GroupSecret
known_group generation None current = current
known_group generation (Some next) current =
    if next.generation == generation then next else current

-- ---- where a datagram may belong

abbrev pub next_places : Option GroupSecret → List Place
next_places None = []
next_places (Some next) = Startup next.generation ∷ []

-- Where a datagram under this session ID may belong, in the order in which it is tried: under 0 to
-- startup in the current generation, and then in the next one where that is known; and else to the
-- attempt or the session that has it.
abbrev pub places_of : State → ℕ → List Place
places_of s sid =
    if sid == 0 then Startup s.group.generation ∷ next_places s.next
    else if contains_key s.startup.attempts sid
    then Attempt sid (attempt_group s.group (get s.startup.attempts sid)).generation ∷ []
    else if contains_key s.sessions sid then Session sid ∷ []
    else []

-- the session ID of a place
abbrev pub sid_at : Place → ℕ
sid_at (Startup generation) = 0
sid_at (Attempt near generation) = near
sid_at (Session near) = near

-- ---- how it opens

-- the group's secret at a place, outside of sessions
abbrev pub group_at : State → Place → GroupSecret
group_at s (Startup generation) = known_group generation s.next s.group
group_at s (Attempt near generation) = attempt_group s.group (get s.startup.attempts near)
group_at s (Session near) = s.group

-- the keys of startup packets there
abbrev pub startup_keys : State → Place → Keys
startup_keys s place = startup_keys_of (group_at s place)

abbrev pub opened_by : Keys → List ℕ → Option SealFault → Result (List ℕ) Cause
opened_by keys part None = Ok (plain_of keys part)
opened_by keys part (Some fault) = Err BadTag

abbrev pub opened_in_startup : State → Place → List ℕ → Result (List ℕ) Cause
opened_in_startup s place part = opened_by (startup_keys s place) part
    (open_refusal (startup_keys s place) (sid_at place) part)

abbrev pub heard_by : SessionState → List ℕ → Option Unheard → Result (List ℕ) Cause
heard_by session part None = Ok (plain_of session.inward part)
heard_by session part (Some ShortPart) = Err Short
heard_by session part (Some WrongTag) = Err BadTag
heard_by session part (Some OldNumber) = Err Repeated

abbrev pub heard_in : Option Row → List ℕ → Result (List ℕ) Cause
heard_in None part = Err UnknownSession
heard_in (Some row) part = heard_by row.session part (unheard row.session part)

-- the plain packet of a sealed part at a place, or why it has none
abbrev pub opened_at : State → Place → List ℕ → Result (List ℕ) Cause
opened_at s (Startup generation) part = opened_in_startup s (Startup generation) part
opened_at s (Attempt near generation) part = opened_in_startup s (Attempt near generation) part
opened_at s (Session near) part = heard_in (get s.sessions near) part

-- It opens at this place, or it is tried further for this cause.
abbrev pub placed_or : Place → Result (List ℕ) Cause →
    (Cause → Result (Place × List ℕ) Cause) → Result (Place × List ℕ) Cause
placed_or place (Ok plain) further = Ok (place, plain)
placed_or place (Err cause) further = further cause

-- The first of these places at which a sealed part opens, with its plain packet. Where it opens at
-- none there is the cause at the last one; where there is no place, this cause.
abbrev pub opened_first : State → Cause → List Place → List ℕ → Result (Place × List ℕ) Cause
opened_first s cause [] part = Err cause
opened_first s cause (place ∷ rest) part =
    placed_or place (opened_at s place part) (λ last. opened_first s last rest part)

-- The place and the plain packet of a datagram. It has 4 bytes of its session ID, and 32 before the
-- ciphertext.
abbrev pub opened_datagram : State → List ℕ → Result (Place × List ℕ) Cause
opened_datagram s datagram = if nat_lt (length datagram) 36 then Err Short
    else opened_first s UnknownSession (places_of s (sid_of datagram)) (drop 4 datagram)

-- ---- what it leaves before its chunks

abbrev pub counted_by : State → ℕ → List ℕ → Option Row → State
counted_by s near part None = s
counted_by s near part (Some row) = with_session s near row (counted row.session part)

abbrev pub counted_at : State → Place → List ℕ → State
counted_at s (Startup generation) part = s
counted_at s (Attempt near generation) part = s
counted_at s (Session near) part = counted_by s near part (get s.sessions near)

abbrev pub timed_by : State → ℕ → PacketHead → Option Row → State
timed_by s near head None = s
timed_by s near head (Some row) =
    with_session s near row (with_stamps head s.moment row.session)

abbrev pub timed_at : State → Place → PacketHead → State
timed_at s (Startup generation) head = s
timed_at s (Attempt near generation) head = s
timed_at s (Session near) head = timed_by s near head (get s.sessions near)

-- a half-open session is confirmed
abbrev pub confirming_by : State → ℕ → Option Row → Did
confirming_by s near None = nothing s
confirming_by s near (Some row) =
    if is_opening row.session.stage
    then record {
      state = with_session (with_startup s (after_confirm s.startup row.session.joined.peer)) near
          row (confirmed row.session);
      entries = fact_entries (confirm_fact s.startup row.session.joined.peer);
    }
    else nothing s

abbrev pub confirming : State → Place → Did
confirming s (Startup generation) = nothing s
confirming s (Attempt near generation) = nothing s
confirming s (Session near) = confirming_by s near (get s.sessions near)

-- whether that session is half-open
abbrev pub confirms_by : Option Row → Bool
confirms_by None = false
confirms_by (Some row) = is_opening row.session.stage

abbrev pub confirms : State → Place → Bool
confirms s (Startup generation) = false
confirms s (Attempt near generation) = false
confirms s (Session near) = confirms_by (get s.sessions near)

-- ---- all of it

-- the mode that packets have at a place: startup, and in a session that of the peer
abbrev pub peers_mode : Role → Mode
peers_mode Initiator = FromResponder
peers_mode Responder = FromInitiator

abbrev pub mode_by : Option Row → Mode
mode_by None = FromStartup
mode_by (Some row) = peers_mode row.session.role

abbrev pub mode_at : State → Place → Mode
mode_at s (Startup generation) = FromStartup
mode_at s (Attempt near generation) = FromStartup
mode_at s (Session near) = mode_by (get s.sessions near)

abbrev pub has_mode : PacketHead → Mode → Bool
has_mode head mode = mode_number head.mode == mode_number mode

-- A datagram is refused, with what that leaves, or taken at a place, with its packet and with what
-- that leaves before its chunks.
pub data Admission : Type 0 where
  Rejected : (state : State) → (cause : Cause) → Admission
  Admitted : (state : State) → (place : Place) → (packet : Whole) → Admission

-- a packet that is taken at a place, from a sealed part
abbrev pub taken_packet : State → Place → List ℕ → Whole → Admission
taken_packet s place part packet = Admitted (timed_at (counted_at s place part) place packet.head)
    place packet

abbrev pub fault_number : PacketFault → ℕ
fault_number Empty = 1
fault_number ModeZero = 2
fault_number ShortStamp = 3

abbrev pub admitted_packet : State → Place → Result Whole PacketFault → Admission
admitted_packet s place (Err fault) = Rejected s (BadPacket (fault_number fault))
admitted_packet s place (Ok packet) =
    if has_mode packet.head (mode_at s place) then
    Admitted (timed_at s place packet.head) place packet else Rejected s WrongPlace

abbrev pub admitted : State → List ℕ → Result (Place × List ℕ) Cause → Admission
admitted s datagram (Err cause) = Rejected s cause
admitted s datagram (Ok found) = admitted_packet (counted_at s found.0 (drop 4 datagram)) found.0
    (packet_in found.1)

abbrev pub admission : State → List ℕ → Admission
admission s datagram = admitted s datagram (opened_datagram s datagram)
