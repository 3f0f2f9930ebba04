-- What each call of an end does, item by item.
use Rattle.std.specs.Prelude.{IsSome, ℕ, zero, suc, ◌+◌, ◌⊎◌, ◌==◌, ◌||◌, ◌≡◌, nat_lt, not, Bool, true, false, if◌then◌else◌, List, [], ◌∷◌, ◌++◌, length, take, Option, Some, None, Result, Ok}
use Rattle.std.specs.FinMap.{get, remove, insert}
use Rattle.rtmfp_forms.specs.Address.{AddressParts}
use Rattle.crypto_profile.specs.declared.group.GroupSecret.{GroupSecret}
use Rattle.rtmfp_chunks.specs.declared.kinds.TheConstants.{REDIRECT, IIKEYING, RIKEYING, PING_REPLY, CLOSE, CLOSE_ACK, FRAGMENT}
use Rattle.rtmfp_chunks.specs.declared.reading.ChunkFault.{ChunkFault}
use Rattle.rtmfp_chunks.specs.Chunk.{Chunk, IHello, FIHello, RHello, Redirect, CookieChange, Ping, PingReply}
use Rattle.rtmfp_chunks.specs.FieldReading.{chunk_reading}
use Rattle.rtmfp_chunks.specs.Writing.{chunk_bytes}
use Rattle.rtmfp_data_chunks.specs.Spelling.{before_next}
use Rattle.rtmfp_data_chunks.specs.Reader.{data_reading}
use Rattle.rtmfp_packet.specs.Walk.{Placed}
use Rattle.cookies.specs.Cookie.{observed}
use Rattle.identity.specs.declared.discriminator.Epd.{Epd}
use Rattle.identity.specs.Discriminators.{discriminator_of}
use Rattle.identity.specs.Targets.{selects, target_of}
use Rattle.glare_core.specs.declared.facts.Why.TheVariants.{Cancelled, Expired}
use Rattle.glare_core.specs.declared.facts.Fact.{Fact}
use Rattle.glare_core.specs.declared.facts.Fact.TheVariants.{Started, Born, Opened, Confirmed, Ended}
use Rattle.glare_core.specs.declared.answers.StartRefusal.{StartRefusal}
use Rattle.rtmfp_base.specs.Reasons.{where_true, first_that_stands}
use Rattle.glare_core.specs.Calls.{start_refusal, started_fact}
use Rattle.rtmfp_base.specs.declared.cause.Cause.{Cause}
use Rattle.startup.specs.declared.answer.Answer.{Answer}
use Rattle.startup.specs.declared.answer.Keyed.{Keyed}
use Rattle.startup.specs.declared.answer.Keyed.TheVariants.{Change, Again, Birth}
use Rattle.startup.specs.declared.answer.Due.{Due}
use Rattle.startup.specs.declared.answer.Due.TheVariants.{Ended as EndDue, Hello as HelloDue, Keying as KeyingDue, Unsought as UnsoughtDue}
use Rattle.startup.specs.Attempts.{begin_spread, after_begin, seek_spread, after_seek, has_search, after_unseek, cancel_fact, after_cancel, rhello_fact, after_rhello, rhello_keying, after_cookie_change, cookie_change_keying}
use Rattle.startup.specs.State.{SpreadParts}
use Rattle.startup.specs.Redirects.{after_redirect, redirect_spread, sent_by_spread}
use Rattle.startup.specs.Due.{due, after_due}
use Rattle.startup.specs.Keyings.{initiator_hello_answer, keyed, after_keying, opened, after_opening}
use Rattle.session_core.specs.declared.stage.Role.TheVariants.{Initiator, Responder}
use Rattle.session_core.specs.Session.{new_session}
use Rattle.endpoint_model.specs.declared.config.Draws.{Draws}
use Rattle.endpoint_model.specs.declared.place.Place.{Place}
use Rattle.endpoint_model.specs.declared.walk.Walk.{Walk}
use Rattle.endpoint_model.specs.declared.row.Row.{Row}
use Rattle.endpoint_model.specs.declared.row_due.RowDue.{RowDue}
use Rattle.endpoint_model.specs.declared.entry.Entry.TheVariants.{Fact as FactEntry, Sought, Unsought, Discard}
use Rattle.endpoint_model.specs.declared.answers.OpenRefusal.{OpenRefusal}
use Rattle.endpoint_model.specs.declared.answers.OpenRefusal.TheVariants.{Candidates, Start, SessionsFull}
use Rattle.endpoint_model.specs.declared.answers.SeekRefusal.{SeekRefusal}
use Rattle.endpoint_model.specs.declared.answers.SeekRefusal.TheVariants.{Candidates as TooFewOrMany, SessionsFull as NoPlace}
use Rattle.session_flows.specs.declared.refusal.CallRefusal.{CallRefusal}
use Rattle.session_flows.specs.declared.refusal.CallRefusal.TheVariants.{NoAttempt}
use Rattle.endpoint_model.specs.State.{State, Sessions, Did, nothing, after_entries, then_do, fact_entries, with_startup, with_sessions, new_row, free_from, full}
use Rattle.endpoint_model.specs.Sending.{is_spent, sent_answer, sent_if, sent_spread, sent_in_session}
use Rattle.endpoint_model.specs.Introducing.{forwarded_to, redirected_to, redirect_of}
use Rattle.endpoint_model.specs.InSessions.{sent_home, told_in_session, tested, asks_at, answers_by}
use Rattle.endpoint_model.specs.FlowTimes.{row_due, due_row, row_due_done}
use Rattle.endpoint_model.specs.Admission.{Admission, Rejected, Admitted, attempt_group, sid_at, group_at, confirming, confirms}
use Rattle.endpoint_model.specs.FlowChunks.{is_of_flows, flow_taken, states_nothing, acked, owes_at, unowed}
use Rattle.endpoint_model.specs.Causes.{chunk_cause}
use Rattle.endpoint_model.specs.Keying.{chunks_of}
use Rattle.endpoint_model.specs.Gathering.{piece_taken, is_held_piece, whole_in, chunks_in}
use Rattle.rtmfp_packet.specs.Whole.{Whole}

-- ---- opening an attempt

-- there are none or more than 16 candidates
abbrev pub candidates_refusal : ℕ → Option OpenRefusal
candidates_refusal count = where_true ((count == 0) || nat_lt 16 count) (Candidates count)

abbrev pub start_refused : Option StartRefusal → Option OpenRefusal
start_refused None = None
start_refused (Some refusal) = Some (Start refusal)

abbrev pub full_refused : Option ℕ → Option OpenRefusal
full_refused None = None
full_refused (Some limit) = Some (SessionsFull limit)

-- why no attempt is opened, but for want of memory
abbrev pub open_refusal : State → List ℕ → List AddressParts → Option OpenRefusal
open_refusal s peer candidates =
    first_that_stands (candidates_refusal (length candidates)
    ∷ start_refused (start_refusal s.startup.ledger peer) ∷ full_refused (full s) ∷ [])

-- a Started, then a hello to each candidate place
abbrev pub opening : State → List ℕ → List AddressParts → Draws → Did
opening s peer candidates draws =
    after_entries
    (FactEntry (started_fact s.startup.ledger peer (free_from s draws.word) draws.nonce) ∷ [])
    (sent_spread
    (with_startup s (after_begin s.startup peer candidates (free_from s draws.word) draws.nonce
    draws.tag s.moment))
    (begin_spread s.startup peer candidates draws.nonce draws.tag s.moment))

-- ---- searching for an end with a name

-- there are none or more than 16 candidates
abbrev pub places_refusal : ℕ → Option SeekRefusal
places_refusal count = where_true ((count == 0) || nat_lt 16 count) (TooFewOrMany count)

abbrev pub no_place : Option ℕ → Option SeekRefusal
no_place None = None
no_place (Some limit) = Some (NoPlace limit)

-- why no search begins, but for want of memory
abbrev pub seek_refusal : State → List AddressParts → Option SeekRefusal
seek_refusal s candidates = first_that_stands
    (places_refusal (length candidates) ∷ no_place (full s) ∷ [])

-- a Sought, then a hello to each candidate place
abbrev pub seeking : State → List ℕ → List AddressParts → Draws → Did
seeking s name candidates draws =
    after_entries (Sought (free_from s draws.word) name ∷ [])
    (sent_spread
    (with_startup s (after_seek s.startup name candidates (free_from s draws.word) draws.nonce
    draws.tag s.moment))
    (seek_spread name candidates draws.nonce draws.tag s.moment))

-- no search has the session ID
abbrev pub unseek_refusal : State → ℕ → Option CallRefusal
unseek_refusal s near = where_true (not (has_search s.startup near)) NoAttempt

-- a search is given up
abbrev pub unseeking : State → ℕ → Did
unseeking s near = record {
  state = with_startup s (after_unseek s.startup near);
  entries = Unsought near Cancelled ∷ [];
}

-- ---- giving one up

abbrev pub cancelling : State → ℕ → Did
cancelling s n = record {
  state = with_startup s (after_cancel s.startup n);
  entries = fact_entries (cancel_fact s.startup n);
}

-- ---- time

-- one thing that time makes due
pub data Item : Type 0 where
  -- the end of an attempt, or its hellos or its keying again
  OfAttempt : (due : Due) → Item
  -- the first thing of a session and of its flows
  OfSession : (near : ℕ) → (row : Row) → (due : RowDue) → Item

abbrev pub attempt_item : Option Due → Option Item
attempt_item None = None
attempt_item (Some due) = Some (OfAttempt due)

abbrev pub row_item : ℕ → Row → Option RowDue → Option Item
row_item near row None = None
row_item near row (Some due) = Some (OfSession near row due)

abbrev pub session_item : ℕ → Option (ℕ × Row) → Option Item
session_item moment None = None
session_item moment (Some e) = row_item e.0 e.1 (row_due moment e.1)

-- The first thing that is due, over all kinds of things: those of attempts by rising session IDs,
-- and then those of sessions.
abbrev pub first_due : State → Option Item
first_due s = first_that_stands
    (attempt_item (due s.startup s.moment) ∷ session_item s.moment (due_row s) ∷ [])

-- what a thing of an attempt adds
abbrev pub due_done : State → Due → Did
due_done s (EndDue fact) = record { state = s; entries = FactEntry fact ∷ [] }
due_done s (HelloDue spread) = sent_spread s spread
due_done s (KeyingDue answer) = sent_answer s answer
due_done s (UnsoughtDue near) = record { state = s; entries = Unsought near Expired ∷ [] }

-- what a thing leaves and adds
abbrev pub item_done : State → Option Item → Did
item_done s None = nothing s
item_done s (Some (OfAttempt due)) =
    due_done (with_startup s (after_due s.startup s.moment)) due
item_done s (Some (OfSession near row due)) = row_due_done s near row due

-- the first thing that is due
abbrev pub tick_once : State → Did
tick_once s = item_done s (first_due s)

-- so many things of a tick, one after another
abbrev pub ticks : ℕ → State → Did
ticks zero s = nothing s
ticks (suc count) s = then_do (tick_once s) (ticks count)

-- ---- what a chunk does that isn't discarded

-- what a thing that was ended leaves of the sessions
abbrev pub without_ended : Sessions → Option Fact → Sessions
without_ended sessions None = sessions
without_ended sessions (Some (Ended peer near why)) = remove sessions near
without_ended sessions (Some fact) = sessions

-- the sessions with one that was born under this secret of the group, without what ended
abbrev pub sessions_born : Sessions → Option Fact → Fact → List ℕ → AddressParts → GroupSecret →
    ℕ → Sessions
sessions_born sessions ended (Started peer n near ni) own from g moment = sessions
sessions_born sessions ended (Born j) own from g moment =
    insert (without_ended sessions ended) j.near
    (new_row (new_session j own Responder from g.generation g.secret moment))
sessions_born sessions ended (Opened j) own from g moment = sessions
sessions_born sessions ended (Confirmed peer near) own from g moment = sessions
sessions_born sessions ended (Ended peer near why) own from g moment = sessions

-- the session that was born is kept, half-open, at the address that its keying came from
abbrev pub with_born : State → Option Fact → Fact → AddressParts → GroupSecret → State
with_born s ended born from g = with_sessions s
    (sessions_born s.sessions ended born s.startup.ledger.own from g s.moment)

-- a new cookie; the keying of the held session again; or the facts of a birth, and the session's
-- keying
abbrev pub keying_done : State → AddressParts → GroupSecret → Option Keyed → Did
keying_done s from g None = nothing s
keying_done s from g (Some (Change answer)) = sent_answer s answer
keying_done s from g (Some (Again answer)) = sent_answer s answer
keying_done s from g (Some (Birth ended born answer)) =
    after_entries (fact_entries ended ++ FactEntry born ∷ [])
    (sent_answer (with_born s ended born from g) answer)

-- A session is born under the group's secret under which the keying came.
abbrev pub initiator_keyed : State → Place → AddressParts → Draws → List ℕ → Did
initiator_keyed s place from draws payload =
    keying_done
    (with_startup s (after_keying s.startup payload from s.moment (free_from s draws.word)
    draws.nonce (group_at s place))) from (group_at s place)
    (keyed s.startup payload from s.moment (free_from s draws.word) draws.nonce (group_at s place))

-- the sessions with one that was opened under this secret of the group
abbrev pub sessions_opened : Sessions → Fact → List ℕ → AddressParts → GroupSecret → ℕ → Sessions
sessions_opened sessions (Started peer n near ni) own from g moment = sessions
sessions_opened sessions (Born j) own from g moment = sessions
sessions_opened sessions (Opened j) own from g moment =
    insert sessions j.near
    (new_row (new_session j own Initiator from g.generation g.secret moment))
sessions_opened sessions (Confirmed peer near) own from g moment = sessions
sessions_opened sessions (Ended peer near why) own from g moment = sessions

-- the session that was opened is kept, at the address that its keying came from
abbrev pub with_opened : State → Fact → AddressParts → GroupSecret → State
with_opened s fact from g = with_sessions s
    (sessions_opened s.sessions fact s.startup.ledger.own from g s.moment)

-- an Opened, then a ping without bytes
abbrev pub opening_done : State → ℕ → AddressParts → GroupSecret → Option Fact → Did
opening_done s near from g None = nothing s
opening_done s near from g (Some fact) =
    after_entries (FactEntry fact ∷ [])
    (sent_in_session (with_opened (with_startup s (after_opening s.startup near fact)) fact from g)
    near from (chunk_bytes (Ping [])))

-- The session has the secret of its attempt, which isn't there any more then.
abbrev pub responder_keyed : State → ℕ → AddressParts → List ℕ → Did
responder_keyed s near from payload =
    opening_done s near from (attempt_group s.group (get s.startup.attempts near))
    (opened s.startup near payload)

-- ---- hellos, redirects, changes of cookies, and pings

-- Of these a responder's hello alone states something: where it answers a search, an attempt
-- starts. Where no count of a startup packet is left, so that no keying can go out, it states
-- nothing and leaves all as it was.
abbrev pub read_fact : State → Result Chunk ChunkFault → Option Fact
read_fact s (Ok (RHello tag cookie cert)) =
    if is_spent s then None else rhello_fact s.startup tag cert
read_fact s read = None

-- How such a chunk is answered: not at all; by a startup packet, if there is one to send, or by
-- hellos, if there are some; in the session that it came in, by the bytes of a body; or by such
-- bytes in the session of another end, if there is one, to where its datagrams go, and then by a
-- startup packet, if there is one.
pub data Reply : Type 0 where
  Silence : Reply
  InStartup : (answer : Option Answer) → Reply
  Hellos : (spread : Option SpreadParts) → Reply
  InSession : (body : List ℕ) → Reply
  Introduction : (to : Option ℕ) → (body : List ℕ) → (redirect : Option Answer) → Reply

abbrev pub sent_spread_if : State → Option SpreadParts → Did
sent_spread_if s None = nothing s
sent_spread_if s (Some spread) = sent_spread s spread

abbrev pub forwarded : State → Option ℕ → List ℕ → Did
forwarded s None body = nothing s
forwarded s (Some near) body = sent_home s near body

abbrev pub replied : State → Place → AddressParts → Reply → Did
replied s place from Silence = nothing s
replied s place from (InStartup answer) = sent_if s answer
replied s place from (Hellos spread) = sent_spread_if s spread
replied s place from (InSession body) = sent_in_session s (sid_at place) from body
replied s place from (Introduction to body redirect) =
    then_do (forwarded s to body) (λ t. sent_if t redirect)

-- A hello for another end is forwarded in that end's session, with the address that it came from as
-- the one that was observed; and it is answered with the addresses of that end's row.
abbrev pub introduction : State → Option Epd → List ℕ → List ℕ → AddressParts → GroupSecret → Reply
introduction s None epd tag from g = Silence
introduction s (Some selected) epd tag from g =
    Introduction (forwarded_to s selected.print) (chunk_bytes (FIHello epd (observed from) tag))
    (redirect_of tag from (redirected_to s selected.print) g)

-- A hello for this end is answered by the own hello, and does nothing else. Both answers go out
-- under the group's secret under which it came.
abbrev pub hello_reply : State → List ℕ → List ℕ → AddressParts → GroupSecret → Reply
hello_reply s epd tag from g =
    if selects (target_of epd) s.startup.cert
    then InStartup (Some (initiator_hello_answer s.startup tag from s.moment g))
    else introduction s (discriminator_of epd) epd tag from g

-- what it leaves before it is answered
abbrev pub read_left : State → Place → AddressParts → Result Chunk ChunkFault → State
read_left s place from (Ok (RHello tag cookie cert)) =
    if is_spent s then s
    else with_startup s (after_rhello s.startup tag cookie cert from s.moment (group_at s place))
read_left s place from (Ok (Redirect tag list)) =
    with_startup s (after_redirect s.startup tag list from s.moment)
read_left s place from (Ok (CookieChange old new)) =
    with_startup s (after_cookie_change s.startup (sid_at place) old new s.moment)
read_left s place from read = s

-- And its answer. A hello that was forwarded came in a session, and so is answered in the current
-- generation.
abbrev pub read_reply : State → Place → AddressParts → Result Chunk ChunkFault → Reply
read_reply s place from (Ok (IHello epd tag)) = hello_reply s epd tag from (group_at s place)
read_reply s place from (Ok (FIHello epd reply tag)) =
    InStartup (Some (initiator_hello_answer s.startup tag reply s.moment s.group))
read_reply s place from (Ok (RHello tag cookie cert)) =
    InStartup (rhello_keying s.startup tag cookie cert from (group_at s place))
read_reply s place from (Ok (Redirect tag list)) = Hellos (redirect_spread s.startup tag list from)
read_reply s place from (Ok (CookieChange old new)) =
    InStartup (cookie_change_keying s.startup (sid_at place) old new)
read_reply s place from (Ok (Ping bytes)) = InSession (chunk_bytes (PingReply bytes))
read_reply s place from read = Silence

-- the fact, if there is one, and then the answer
abbrev pub read_done : State → Place → AddressParts → Result Chunk ChunkFault → Did
read_done s place from read = after_entries (fact_entries (read_fact s read))
    (replied (read_left s place from read) place from (read_reply s place from read))

-- ---- what a chunk does

-- closes, their answers, and the answers to pings
abbrev pub is_told_in_session : ℕ → Bool
is_told_in_session kind = (kind == CLOSE) || (kind == CLOSE_ACK) || (kind == PING_REPLY)

abbrev pub effect : State → Place → Walk → AddressParts → Draws → Placed → Did
effect s place walk from draws c =
    if c.kind == IIKEYING then initiator_keyed s place from draws c.payload
    else if c.kind == RIKEYING then responder_keyed s (sid_at place) from c.payload
    else if is_told_in_session c.kind then told_in_session s (sid_at place) from c
    else if is_of_flows c.kind then flow_taken s (sid_at place)
    (data_reading walk.cursor c.kind c.payload)
    else if c.kind == FRAGMENT then piece_taken s (sid_at place) c.at
    (chunk_reading c.kind c.payload)
    else read_done s place from (chunk_reading c.kind c.payload)

-- ---- the chunks of a datagram

abbrev pub discarded : State → ℕ → Cause → Did
discarded s at cause = record { state = s; entries = Discard at cause ∷ [] }

-- a chunk with a cause is discarded, and does nothing else
abbrev pub discarded_or : State → ℕ → Option Cause → Did → Did
discarded_or s at None d = d
discarded_or s at (Some cause) d = discarded s at cause

abbrev pub chunk_did : Place → AddressParts → Draws → Walk → State → Placed → Did
chunk_did place from draws walk s c =
    discarded_or s c.at (chunk_cause s place walk from c) (effect s place walk from draws c)

-- before the first chunk of a datagram
abbrev pub outset : Walk
outset = record { keyed = false; gathered = false; cursor = None }

-- and before the first one of a packet that was gathered
abbrev pub inset : Walk
inset = record { keyed = false; gathered = true; cursor = None }

-- once this one was gone through
abbrev pub walked : Walk → Placed → Walk
walked walk c = record {
  keyed = walk.keyed || (c.kind == IIKEYING);
  gathered = walk.gathered;
  cursor = before_next (data_reading walk.cursor c.kind c.payload);
}

-- a chunk that is gone through, and what those before it in its packet were
pub record WalkStep : Type 0 where
  pub walk : Walk
  pub chunk : Placed

abbrev pub walk_step : Walk → Placed → WalkStep
walk_step walk c = record { walk = walk; chunk = c }

-- the chunks of one packet, one after another
abbrev pub in_order : Walk → List Placed → List WalkStep
in_order walk [] = []
in_order walk (c ∷ cs) = walk_step walk c ∷ in_order (walked walk c) cs

abbrev pub steps_did : Place → AddressParts → Draws → State → List WalkStep → Did
steps_did place from draws s [] = nothing s
steps_did place from draws s (x ∷ xs) =
    then_do (chunk_did place from draws x.walk s x.chunk) (λ t. steps_did place from draws t xs)

abbrev pub chunks_did : Place → AddressParts → Draws → Walk → State → List Placed → Did
chunks_did place from draws walk s cs = steps_did place from draws s (in_order walk cs)

-- the packet that a chunk completes: a piece that is taken
abbrev pub whole_at : State → Place → Option Cause → Placed → Option (List ℕ)
whole_at s place None c = whole_in s (sid_at place) (chunk_reading c.kind c.payload)
whole_at s place (Some cause) c = None

-- a chunk, and those of the packet that it completes, if it does
abbrev pub with_gathered : Place → AddressParts → Walk → State → Placed → List WalkStep
with_gathered place from walk s c = walk_step walk c ∷ in_order inset
    (chunks_in s (sid_at place) (whole_at s place (chunk_cause s place walk from c) c))

-- All chunks that are gone through: those of the datagram's packet, and behind each piece that
-- completes a packet those of that one.
abbrev pub steps_of : Place → AddressParts → Draws → Walk → State → List Placed → List WalkStep
steps_of place from draws walk s [] = []
steps_of place from draws walk s (c ∷ cs) = with_gathered place from walk s c
    ++ steps_of place from draws (walked walk c)
    (steps_did place from draws s (with_gathered place from walk s c)).state cs

-- those of a datagram's packet
abbrev pub walk_of : Place → AddressParts → Draws → State → Whole → List WalkStep
walk_of place from draws s packet = steps_of place from draws outset s (chunks_of packet)

-- ---- a datagram, once it was taken and its session is confirmed

-- the chunks, and so many packets of the acks that they owe
abbrev pub walked_and_acked : Place → AddressParts → Draws → State → List WalkStep → ℕ → Did
walked_and_acked place from draws s xs acks =
    then_do (steps_did place from draws s xs) (λ t. acked acks t place)

-- More packets of acks than a session can owe: one for each flow of the other end.
abbrev pub most_acks : ℕ
most_acks = 256

-- all acks that they owe, and then a test of the address that it came from
abbrev pub walked_and_tested : Place → AddressParts → Draws → State → List WalkStep → Did
walked_and_tested place from draws s xs =
    then_do (walked_and_acked place from draws s xs most_acks) (λ t. tested t place from draws)

-- Or it stops after so many packets of acks. Those that are owed yet aren't sent any more.
abbrev pub walked_in_part : Place → AddressParts → Draws → State → List WalkStep → ℕ → Did
walked_in_part place from draws s xs acks =
    then_do (walked_and_acked place from draws s xs acks) (λ t. nothing (unowed t place))

-- ---- a datagram

-- It is refused; or a half-open session is confirmed, and then come the chunks, the acks and the
-- test.
abbrev pub received : AddressParts → Draws → Admission → Did
received from draws (Rejected s cause) = discarded s 0 cause
received from draws (Admitted s place packet) =
    then_do (confirming s place)
    (λ t. walked_and_tested place from draws t (walk_of place from draws t packet))

-- What was done of a datagram of which so many chunks were gone through, and then so many packets
-- of acks sent.
abbrev pub part_received : AddressParts → Draws → Admission → ℕ → ℕ → Did
part_received from draws (Rejected s cause) count acks = nothing s
part_received from draws (Admitted s place packet) count acks =
    then_do (confirming s place)
    (λ t. walked_in_part place from draws t (take count (walk_of place from draws t packet)) acks)

-- ---- datagrams that add nothing but discards

-- it is an answer to a ping that moves nothing, a redirect that adds no address, or a piece that is
-- held already
abbrev pub adds_nothing : State → AddressParts → Result Chunk ChunkFault → Bool
adds_nothing s from (Ok (Redirect tag list)) =
    sent_by_spread (redirect_spread s.startup tag list from) == 0
adds_nothing s from read = false

abbrev pub is_idle : State → Place → AddressParts → Placed → Bool
is_idle s place from c =
    if c.kind == PING_REPLY then not (answers_by from c.payload (get s.sessions (sid_at place)))
    else if c.kind == REDIRECT then adds_nothing s from (chunk_reading c.kind c.payload)
    else if c.kind == FRAGMENT then is_held_piece s (sid_at place) (chunk_reading c.kind c.payload)
    else false

-- or a chunk of flows that states nothing and owes no ack
abbrev pub is_idle_after : State → Place → Walk → AddressParts → Placed → Bool
is_idle_after s place walk from c =
    if is_of_flows c.kind then states_nothing (get s.sessions (sid_at place))
    (data_reading walk.cursor c.kind c.payload)
    else is_idle s place from c

-- The chunk is discarded, or it adds nothing.
abbrev pub IsQuiet : State → Place → Walk → AddressParts → Placed → Type 0
IsQuiet s place walk from c =
    IsSome (chunk_cause s place walk from c) ⊎ (is_idle_after s place walk from c ≡ true)

abbrev pub AreQuiet : Place → AddressParts → Draws → State → List WalkStep → Type 0
AreQuiet place from draws s [] = Unit {0}
AreQuiet place from draws s (x ∷ xs) = IsQuiet s place x.walk from x.chunk ×
    AreQuiet place from draws (chunk_did place from draws x.walk s x.chunk).state xs

-- one for a cause
abbrev pub discards_for : Option Cause → ℕ
discards_for None = 0
discards_for (Some cause) = 1

-- how many of these chunks are discarded
abbrev pub discards_among : Place → AddressParts → Draws → State → List WalkStep → ℕ
discards_among place from draws s [] = 0
discards_among place from draws s (x ∷ xs) =
    discards_for (chunk_cause s place x.walk from x.chunk)
    + discards_among place from draws (chunk_did place from draws x.walk s x.chunk).state xs

-- No ack is owed after the chunks, and the address isn't tested.
abbrev pub EndsQuietly : AddressParts → Place → State → Type 0
EndsQuietly from place s = (owes_at s place ≡ false) × (asks_at s place from ≡ false)

-- The datagram adds discards alone, or nothing: it is refused, or it confirms nothing, each of its
-- chunks is discarded or adds nothing, no ack is owed then, and its address isn't tested.
abbrev pub AddsDiscards : AddressParts → Draws → Admission → Type 0
AddsDiscards from draws (Rejected s cause) = Unit {0}
AddsDiscards from draws (Admitted s place packet) = (confirms s place ≡ false) ×
    AreQuiet place from draws s (walk_of place from draws s packet) ×
    EndsQuietly from place
    (steps_did place from draws s (walk_of place from draws s packet)).state

-- how many discards these are
abbrev pub discards : AddressParts → Draws → Admission → ℕ
discards from draws (Rejected s cause) = 1
discards from draws (Admitted s place packet) =
    discards_among place from draws s (walk_of place from draws s packet)
