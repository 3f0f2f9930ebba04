-- A chunk that isn't discarded, as it was read once and with what was found of it.
use Rattle.std.specs.Prelude.{ℕ, ◌≤◌, not, Bool, true, if◌then◌else◌, [], ◌∷◌, length, List, Option}
use Rattle.std.specs.Prelude.{Some, None, Ok, ◌≡◌}
use Rattle.std.specs.FinMap.{get}
use Rattle.rtmfp_forms.specs.Address.{AddressParts}
use Rattle.crypto_profile.specs.declared.group.GroupSecret.{GroupSecret}
use Rattle.rtmfp_chunks.specs.Chunk.{chunk_of, Chunk}
use Rattle.rtmfp_chunks.specs.Chunk.{Close as CloseChunk, CloseAck as CloseAckChunk}
use Rattle.rtmfp_chunks.specs.Chunk.{FIHello, PingReply as PingReplyChunk}
use Rattle.rtmfp_chunks.specs.FieldReading.{chunk_reading}
use Rattle.rtmfp_packet.specs.Walk.{Placed}
use Rattle.identity.specs.declared.discriminator.Epd.{Epd}
use Rattle.identity.specs.Discriminators.{discriminator_of}
use Rattle.cookies.specs.Cookie.{observed}
use Rattle.rtmfp_chunks.specs.Writing.{IsWritable, chunk_bytes}
use Rattle.rtmfp_base.specs.Reasons.{where_true, first_that_stands}
use Rattle.rtmfp_base.specs.declared.cause.Cause.{Cause}
use Rattle.rtmfp_base.specs.declared.cause.Cause.TheVariants.{WrongPlace, WrongState}
use Rattle.startup.specs.State.{AttemptState, peer_of_attempt}
use Rattle.startup.specs.Attempts.{wide, changed, answer_fact, after_answer, answer_keying}
use Rattle.startup.specs.Attempts.{after_change, change_keying}
use Rattle.startup_packets.specs.Readings.{initiator_keying_in, responder_keying_in}
use Rattle.startup.specs.Keyings.{initiator_hello_answer}
use Rattle.startup_packets.specs.Read.{initiator_of, responder_of}
use Rattle.startup.specs.Judging.{judged_initiator, IsFound, IsGreeted, found_in, Extends}
use Rattle.startup.specs.Judging.{after_extension_of, extension_spread}
use Rattle.endpoint_model.specs.declared.config.Draws.{Draws}
use Rattle.endpoint_model.specs.declared.place.Place.{Place}
use Rattle.endpoint_model.specs.declared.walk.Walk.{Walk}
use Rattle.endpoint_model.specs.State.{State, Did, nothing, after_entries, then_do, fact_entries}
use Rattle.endpoint_model.specs.State.{with_startup, full}
use Rattle.endpoint_model.specs.Sending.{is_spent, sent_answer, sent_if, sent_in_session}
use Rattle.endpoint_model.specs.Admission.{group_at, sid_at}
use Rattle.endpoint_model.specs.InSessions.{answers_by, close_taken_by, closed, moved_by}
use Rattle.endpoint_model.specs.InSessions.{told_in_session}
use Rattle.endpoint_model.specs.Causes.{has_state_for, read_cause, takes_in}
use Rattle.endpoint_model.specs.Effects.{initiator_keyed, responder_keyed, read_done}
use Rattle.endpoint_model.specs.Effects.{adds_nothing, forwarded, is_told_in_session}
use Rattle.endpoint_model.specs.Effects.{sent_spread_if}
use Rattle.endpoint_model.specs.Introducing.{redirect_of}
use Rattle.end_chunks.specs.declared.judging.Verdict.{Verdict}
use Rattle.end_chunks.specs.declared.judging.Verdict.TheVariants.{Hello, ForwardedHello, ResponderHello}
use Rattle.end_chunks.specs.declared.judging.Verdict.TheVariants.{CookieChange}
use Rattle.end_chunks.specs.declared.judging.Verdict.TheVariants.{InitiatorKeying, ResponderKeying}
use Rattle.end_chunks.specs.declared.judging.Verdict.TheVariants.{Introduction, Redirect}
use Rattle.end_chunks.specs.declared.judging.Verdict.TheVariants.{Reply, Close, CloseAck}
use Rattle.end_chunks.specs.declared.judging.Verdict.TheVariants.{PingReply, Quiet}

-- the causes of a chunk that is judged, where these are that of its form and its last one
abbrev pub judged_cause : Place → Walk → ℕ → Option Cause → Option Cause → Option Cause
judged_cause place walk kind form last =
    first_that_stands (form ∷ where_true (not (takes_in place walk kind)) WrongPlace ∷ last ∷ [])

-- the last cause of one that is no keying
abbrev pub other_cause : State → Place → AddressParts → Placed → Option Cause
other_cause s place from c =
    first_that_stands (where_true (not (has_state_for s place c.kind)) WrongState
    ∷ read_cause s place from (chunk_reading c.kind c.payload) ∷ [])

-- what one does that is no keying
abbrev pub other_done : State → Place → AddressParts → Placed → Did
other_done s place from c =
    if is_told_in_session c.kind then told_in_session s (sid_at place) from c
    else read_done s place from (chunk_reading c.kind c.payload)

-- the same by what was read
abbrev pub view_done : State → Place → AddressParts → Chunk → Did
view_done s place from CloseChunk =
    close_taken_by s (sid_at place) (get s.sessions (sid_at place))
view_done s place from CloseAckChunk = closed s (sid_at place)
view_done s place from (PingReplyChunk bytes) =
    moved_by s (sid_at place) from bytes (get s.sessions (sid_at place))
view_done s place from chunk = read_done s place from (Ok chunk)

-- it is an answer to a ping that moves nothing, or a redirect that adds no address
abbrev pub does_nothing : State → Place → AddressParts → Chunk → Bool
does_nothing s place from (PingReplyChunk bytes) =
    not (answers_by from bytes (get s.sessions (sid_at place)))
does_nothing s place from chunk = adds_nothing s from (Ok chunk)

-- What the hello of the end with this fingerprint does to the attempt or search that it answers,
-- where it came under this secret of the group: a search starts as an attempt, which is told first,
-- and the keying goes to where the hello came from.
abbrev pub greeting_did : State → GroupSecret → List ℕ → Option (ℕ × AttemptState) → AddressParts →
    List ℕ → Did
greeting_did s g print chosen from cookie = after_entries
    (fact_entries (answer_fact s.startup print chosen))
    (sent_if (with_startup s (after_answer s.startup print chosen from cookie s.moment g))
    (answer_keying s.startup print chosen from cookie g))

-- It does so as long as a count of startup packets is left for the keying.
abbrev pub hello_did : State → GroupSecret → List ℕ → Option (ℕ × AttemptState) → AddressParts →
    List ℕ → Did
hello_did s g print chosen from cookie =
    if is_spent s then nothing s else greeting_did s g print chosen from cookie

-- what it does
abbrev pub verdict_did : State → Place → AddressParts → Draws → Verdict → Did
verdict_did s place from draws (Hello tag) =
    sent_answer s (initiator_hello_answer s.startup tag.now from s.moment (group_at s place))
verdict_did s place from draws (ForwardedHello tag to) =
    sent_answer s (initiator_hello_answer s.startup tag.now to s.moment s.group)
verdict_did s place from draws (ResponderHello greeting cookie) =
    hello_did s (group_at s place) greeting.print (found_in s.startup greeting.found) from cookie.now
verdict_did s place from draws (Introduction epd tag near row) =
    then_do (forwarded s near (chunk_bytes (FIHello epd.now (observed from) tag.now)))
    (λ t. sent_if t (redirect_of tag.now from row (group_at s place)))
verdict_did s place from draws (Redirect extension) =
    sent_spread_if (with_startup s
    (after_extension_of s.startup (found_in s.startup extension.found) extension.new s.moment))
    (extension_spread (found_in s.startup extension.found) extension.new)
verdict_did s place from draws (CookieChange found new) =
    sent_if (with_startup s (after_change s.startup (found_in s.startup found) new.now s.moment))
    (change_keying s.startup (found_in s.startup found) new.now)
verdict_did s place from draws (InitiatorKeying fields hearing) =
    initiator_keyed s place from draws fields.payload.now
verdict_did s place from draws (ResponderKeying fields peer) =
    responder_keyed s (sid_at place) from fields.payload.now
verdict_did s place from draws (Reply chunk) =
    sent_in_session s (sid_at place) from (chunk_bytes (chunk_of chunk))
verdict_did s place from draws Close =
    close_taken_by s (sid_at place) (get s.sessions (sid_at place))
verdict_did s place from draws CloseAck = closed s (sid_at place)
verdict_did s place from draws (PingReply bytes) =
    moved_by s (sid_at place) from bytes.now (get s.sessions (sid_at place))
verdict_did s place from draws Quiet = nothing s

-- what was found is so
abbrev pub IsSo : State → Place → AddressParts → Verdict → Type 0
IsSo s place from (Hello tag) = wide tag.now ≡ None
IsSo s place from (ForwardedHello tag to) = wide tag.now ≡ None
IsSo s place from (ResponderHello greeting cookie) =
    ((chosen : Option (ℕ × AttemptState)) × ((cert : List ℕ) ×
    IsGreeted s.startup greeting chosen cert)) × (length cookie.now ≤ 128)
IsSo s place from (Introduction epd tag near row) = (wide tag.now ≡ None)
    × ((selected : Epd) × (discriminator_of epd.now ≡ Some selected))
IsSo s place from (Redirect extension) = Extends s.startup extension
IsSo s place from (CookieChange found new) =
    ((sid : ℕ) × ((old : List ℕ) × IsFound s.startup found (changed s.startup.attempts sid old)))
    × (length new.now ≤ 128)
IsSo s place from (InitiatorKeying fields hearing) =
    (initiator_keying_in fields.payload.now ≡ Ok (initiator_of fields))
    × (judged_initiator s.startup fields.payload.now from s.moment (full s) (group_at s place)
    (initiator_of fields) ≡ Ok hearing)
IsSo s place from (ResponderKeying fields peer) =
    (responder_keying_in fields.payload.now ≡ Ok (responder_of fields))
    × (peer_of_attempt (get s.startup.attempts (sid_at place)) ≡ Some peer)
IsSo s place from (Reply chunk) = IsWritable (chunk_of chunk)
    × (length (chunk_bytes (chunk_of chunk)) ≤ 1159)
IsSo s place from Close = Unit {0}
IsSo s place from CloseAck = Unit {0}
IsSo s place from (PingReply bytes) =
    answers_by from bytes.now (get s.sessions (sid_at place)) ≡ true
IsSo s place from Quiet = Unit {0}

-- the chunk does what the verdict says, and what was found of it is so
pub record Stands (s : State) (place : Place) (from : AddressParts) (does : Draws → Did)
    (verdict : Verdict) : Type 0 where
  pub so : IsSo s place from verdict
  pub does_so : (draws : Draws) → does draws ≡ verdict_did s place from draws verdict
