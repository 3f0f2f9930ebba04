-- Why a chunk is discarded, in the order of the causes.
use Rattle.std.specs.Prelude.{ℕ, ◌-◌, ◌==◌, ◌&&◌, ◌||◌, nat_lt, not, Bool, true, false, is_some, if◌then◌else◌, List, [], ◌∷◌, length, Option, Some, None, Result, Ok, Err}
use Rattle.std.specs.FinMap.{get, contains_key}
use Rattle.rtmfp_forms.specs.Address.{AddressParts}
use Rattle.rtmfp_chunks.specs.declared.kinds.TheConstants.{IHELLO, FIHELLO, RHELLO, REDIRECT, COOKIE_CHANGE, IIKEYING, RIKEYING, PING, PING_REPLY, CLOSE, CLOSE_ACK, FRAGMENT}
use Rattle.rtmfp_chunks.specs.declared.reading.ChunkFault.{ChunkFault}
use Rattle.rtmfp_chunks.specs.declared.reading.ChunkFault.TheVariants.{Unknown, Malformed as BadField}
use Rattle.rtmfp_chunks.specs.Chunk.{Chunk, IHello, FIHello, RHello, Redirect, CookieChange, Ping, Fragment}
use Rattle.rtmfp_chunks.specs.FieldReading.{chunk_reading}
use Rattle.rtmfp_data_chunks.specs.declared.user_data.Numbers.{Numbers}
use Rattle.rtmfp_data_chunks.specs.Reader.{data_reading}
use Rattle.rtmfp_packet.specs.Walk.{Placed}
use Rattle.identity.specs.Certificates.{certificate_fault}
use Rattle.rtmfp_base.specs.Reasons.{where_true, first_that_stands}
use Rattle.rtmfp_base.specs.declared.cause.Cause.{Cause}
use Rattle.rtmfp_base.specs.declared.cause.Cause.TheVariants.{UnknownChunk, Malformed, WrongPlace, WrongState, NoAttempt, SecondKeying, Fragment as FragmentCause, Wide}
use Rattle.startup.specs.Attempts.{rhello_cause, cookie_change_cause}
use Rattle.startup.specs.Redirects.{redirect_cause}
use Rattle.startup.specs.Keyings.{keying_fault, initiator_hello_cause, iikeying_cause, rikeying_cause}
use Rattle.session_core.specs.declared.stage.Stage.{Stage}
use Rattle.session_core.specs.Closing.{is_held, is_near_close}
use Rattle.endpoint_model.specs.declared.row.Row.{Row}
use Rattle.endpoint_model.specs.declared.place.Place.{Place}
use Rattle.endpoint_model.specs.declared.walk.Walk.{Walk}
use Rattle.endpoint_model.specs.declared.place.Place.TheVariants.{Startup, Attempt, Session}
use Rattle.endpoint_model.specs.State.{State, full}
use Rattle.endpoint_model.specs.Introducing.{hello_cause}
use Rattle.endpoint_model.specs.FlowChunks.{is_of_flows, is_session, data_fault, flow_cause}
use Rattle.rtmfp_fragments.specs.Pieces.{piece}
use Rattle.endpoint_model.specs.Gathering.{may_be_gathered, piece_cause}
use Rattle.endpoint_model.specs.Admission.{sid_at, group_at}

abbrev pub is_hello : ℕ → Bool
is_hello kind = (kind == IHELLO) || (kind == FIHELLO)

-- the chunks that an end reads today
abbrev pub is_known : ℕ → Bool
is_known kind =
    is_hello kind || (kind == RHELLO) || (kind == REDIRECT) || (kind == COOKIE_CHANGE)
    || (kind == IIKEYING) || (kind == RIKEYING) || (kind == PING) || (kind == PING_REPLY)
    || (kind == CLOSE) || (kind == CLOSE_ACK) || (kind == FRAGMENT) || is_of_flows kind

-- The certificate of a responder's hello, which ends a payload of this length, isn't one.
abbrev pub view_fault : ℕ → Chunk → Option Cause
view_fault len (RHello tag cookie cert) = where_true (is_some (certificate_fault cert))
    (Malformed (len - length cert))
view_fault len chunk = None

-- or a field can't be read
abbrev pub read_fault : ℕ → Result Chunk ChunkFault → Option Cause
read_fault len (Ok chunk) = view_fault len chunk
read_fault len (Err (BadField at)) = Some (Malformed at)
read_fault len (Err (Unknown kind)) = Some (UnknownChunk kind)

-- The fields and the forms of a chunk. A next chunk is read behind these numbers, if there are
-- some.
abbrev pub form_cause : Option Numbers → ℕ → List ℕ → Option Cause
form_cause before kind payload =
    if (kind == IIKEYING) || (kind == RIKEYING) then keying_fault kind payload
    else if is_of_flows kind then data_fault (data_reading before kind payload)
    else read_fault (length payload) (chunk_reading kind payload)

-- which chunks a place takes
abbrev pub takes : Place → ℕ → Bool
takes (Startup generation) kind =
    (kind == IHELLO) || (kind == RHELLO) || (kind == REDIRECT) || (kind == COOKIE_CHANGE)
    || (kind == IIKEYING)
takes (Attempt near generation) kind = (kind == COOKIE_CHANGE) || (kind == RIKEYING)
takes (Session near) kind =
    (kind == FIHELLO) || (kind == PING) || (kind == PING_REPLY) || (kind == CLOSE)
    || (kind == CLOSE_ACK) || (kind == FRAGMENT) || is_of_flows kind

-- In a packet that was gathered a place takes fewer.
abbrev pub takes_in : Place → Walk → ℕ → Bool
takes_in place walk kind = takes place kind && (may_be_gathered kind || not walk.gathered)

-- A piece of a packet is one in a session, and not in a packet that was gathered.
abbrev pub is_stray : Place → Walk → ℕ → Bool
is_stray place walk kind = (kind == FRAGMENT) && (not (is_session place) || walk.gathered)

-- A session that is held takes all of them but the answer to a close. One that is closing takes a
-- close, and where this end closes it the answer.
abbrev pub stage_takes : Stage → ℕ → Bool
stage_takes stage kind =
    if kind == CLOSE then true
    else if kind == CLOSE_ACK then is_near_close stage
    else is_held stage

-- One that is over takes none.
abbrev pub row_takes : Option Row → ℕ → Bool
row_takes None kind = false
row_takes (Some row) kind = stage_takes row.session.stage kind

abbrev pub has_state_for : State → Place → ℕ → Bool
has_state_for s (Startup generation) kind = true
has_state_for s (Attempt near generation) kind = true
has_state_for s (Session near) kind = row_takes (get s.sessions near) kind

-- The causes of hellos, of redirects, of changes of cookies, of pings and of pieces. A hello that
-- was forwarded is forwarded to nobody.
abbrev pub read_cause : State → Place → AddressParts → Result Chunk ChunkFault → Option Cause
read_cause s place from (Ok (IHello epd tag)) = hello_cause s epd tag
read_cause s place from (Ok (FIHello epd reply tag)) = initiator_hello_cause s.startup epd tag
read_cause s place from (Ok (RHello tag cookie cert)) = rhello_cause s.startup tag cookie cert
read_cause s place from (Ok (Redirect tag list)) = redirect_cause s.startup tag list from
read_cause s place from (Ok (CookieChange old new)) =
    cookie_change_cause s.startup (sid_at place) old new (group_at s place).generation
read_cause s place from (Ok (Ping bytes)) =
    where_true (nat_lt 1024 (length bytes)) (Wide (length bytes))
read_cause s place from (Ok (Fragment more id number bytes)) =
    piece_cause s.moment (get s.sessions (sid_at place)) id (piece number more bytes)
read_cause s place from (Ok chunk) = None
read_cause s place from (Err fault) = None

-- A keying after another one of the same datagram.
abbrev pub initiator_keying_cause : State → Place → Walk → AddressParts → List ℕ → Option Cause
initiator_keying_cause s place walk from payload =
    if walk.keyed then Some SecondKeying else
    iikeying_cause s.startup payload from s.moment (full s) (group_at s place)

-- Once its session is open the attempt isn't there any more.
abbrev pub responder_keying_cause : State → Place → List ℕ → Option Cause
responder_keying_cause s place payload = if contains_key s.startup.attempts (sid_at place) then
    rikeying_cause s.startup (sid_at place) payload (group_at s place) else Some NoAttempt

abbrev pub last_cause : State → Place → Walk → AddressParts → Placed → Option Cause
last_cause s place walk from c =
    if c.kind == IIKEYING then initiator_keying_cause s place walk from c.payload
    else if c.kind == RIKEYING then responder_keying_cause s place c.payload
    else if is_of_flows c.kind then flow_cause (get s.sessions (sid_at place))
    (data_reading walk.cursor c.kind c.payload)
    else first_that_stands (where_true (not (has_state_for s place c.kind)) WrongState
    ∷ read_cause s place from (chunk_reading c.kind c.payload) ∷ [])

abbrev pub chunk_cause : State → Place → Walk → AddressParts → Placed → Option Cause
chunk_cause s place walk from c =
    first_that_stands (
    where_true (not (is_known c.kind)) (UnknownChunk c.kind)
    ∷ form_cause walk.cursor c.kind c.payload
    ∷ where_true (is_stray place walk c.kind) FragmentCause
    ∷ where_true (not (takes_in place walk c.kind)) WrongPlace
    ∷ last_cause s place walk from c
    ∷ [])
