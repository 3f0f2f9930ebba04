-- Each thing that a session does with its flows is a list of deeds.
use Rattle.std.specs.Prelude.{ℕ, ◌≡◌, List, Option, None, Ok, length}
use Rattle.rtmfp_packet.specs.declared.head.PacketHead.{PacketHead}
use Rattle.rtmfp_packet.specs.Head.{HeadSpells}
use Rattle.rtmfp_packet.specs.Reading.{PacketReading}
use Rattle.rtmfp_packet.specs.Walk.{all_placed_from, visible}
use Rattle.rtmfp_packet.specs.Whole.{Whole}
use Rattle.rtmfp_data_chunks.specs.declared.user_data.Numbers.{Numbers}
use Rattle.rtmfp_data_chunks.specs.Chunk.{UserParts, DataChunk}
use Rattle.rtmfp_data_chunks.specs.Fitting.{IsReadable, FitsIn, AreSmall}
use Rattle.rtmfp_data_chunks.specs.HandsOver.{IsIn}
use Rattle.rtmfp_data_chunks.specs.Reader.{data_reading}
use Rattle.rtmfp_data_chunks.specs.Spelling.{before_next}
use Rattle.flow_send.specs.declared.waiting.MessageOptions.{MessageOptions}
use Rattle.flow_send.specs.Acks.{Told}
use Rattle.flow_history.specs.Deeds.{Piece, Data, Ack}
use Rattle.flow_history.specs.Keeping.{Flows}
use Rattle.session_core.specs.Session.{SessionState}
use Rattle.session_flows.specs.declared.pace.Pace.{Pace}
use Rattle.session_flows.specs.Keeping.{FlowsState, no_flows, with_sending, Did, nothing, then_do}
use Rattle.session_flows.specs.Calling.{open_refusal, opening, queue_refused, queueing}
use Rattle.session_flows.specs.Calling.{abandon_refused, abandoning, finish_refused, finishing}
use Rattle.session_flows.specs.Causes.{data_cause, ack_cause, chunk_cause}
use Rattle.session_flows.specs.Handing.{hands_once, hands}
use Rattle.session_flows.specs.Chunks.{data_done, heard, probed, rejecting, chunk_done}
use Rattle.session_flows.specs.Owing.{after_acks, acks_put, owing_none}
use Rattle.session_flows.specs.Packing.{filled}
use Rattle.session_flows.specs.Timing.{after_late, overdue_done, overdue_in}
use Rattle.session_deeds.specs.Deeds.{Deed, none_yet}
use Rattle.session_deeds.specs.Goes.{IsDoneBy, Goes, AllSaid}
use Rattle.session_deeds.specs.Pieces.{carried_of, pieces_in, pieces_of, IsPutBehind}
use Rattle.session_deeds.specs.Shows.{Shows}

-- ---- calls

-- Metadata of at most 64 bytes, and at most 255 flows before.
abbrev pub OpeningGoes : Type 0
OpeningGoes = (came : List Piece) (s : FlowsState) (metadata : List ℕ) (answers : Option ℕ)
    (priority : ℕ) → open_refusal s (length metadata) priority ≡ None →
    Goes came s (opening s metadata answers priority)

abbrev pub QueueingGoes : Type 0
QueueingGoes = (came : List Piece) (s : FlowsState) (id : ℕ) (bytes : List ℕ)
    (options : MessageOptions) → queue_refused s id (length bytes) ≡ None →
    Goes came s (queueing s id bytes options)

abbrev pub AbandoningGoes : Type 0
AbandoningGoes = (came : List Piece) (s : FlowsState) (id seq : ℕ) →
    abandon_refused s id seq ≡ None → Goes came s (abandoning s id seq)

abbrev pub FinishingGoes : Type 0
FinishingGoes = (came : List Piece) (s : FlowsState) (id : ℕ) → finish_refused s id ≡ None →
    Goes came s (finishing s id)

-- ---- chunks

-- Its fields can be read, it isn't discarded, and it came.
abbrev pub DataGoes : Type 0
DataGoes = (came : List Piece) (session : SessionState) (s : FlowsState) (user : UserParts) →
    IsReadable user → data_cause session s user ≡ None →
    IsIn (Data user.flow (carried_of user)) came → Goes came s (data_done s user)

abbrev pub HearingGoes : Type 0
HearingGoes = (came : List Piece) (session : SessionState) (s : FlowsState) (id : ℕ) (a : Told) →
    ack_cause session s id a ≡ None → IsIn (Ack id a) came → Goes came s (nothing (heard s id a))

abbrev pub ProbingGoes : Type 0
ProbingGoes = (came : List Piece) (s : FlowsState) (id : ℕ) → Goes came s (nothing (probed s id))

abbrev pub RejectingGoes : Type 0
RejectingGoes = (came : List Piece) (s : FlowsState) (id : ℕ) → Goes came s (rejecting s id)

-- any of them
abbrev pub ChunkGoes : Type 0
ChunkGoes = (came : List Piece) (session : SessionState) (s : FlowsState) (chunk : DataChunk) →
    FitsIn chunk → chunk_cause session s chunk ≡ None →
    ((p : Piece) → IsIn p (pieces_in chunk) → IsIn p came) → Goes came s (chunk_done s chunk)

-- what a call that was stopped left ready, one message after another
abbrev pub HandingGoes : Type 0
HandingGoes = (came : List Piece) (s : FlowsState) (id count : ℕ) → Goes came s (hands count id s)

abbrev pub HandingOneGoes : Type 0
HandingOneGoes = (came : List Piece) (s : FlowsState) (id : ℕ) → Goes came s (hands_once s id)

-- ---- what time makes due

abbrev pub LosingGoes : Type 0
LosingGoes = (came : List Piece) (session : SessionState) (s : FlowsState) (moment : ℕ) →
    Goes came s (nothing (after_late session s moment))

abbrev pub OverdueGoes : Type 0
OverdueGoes = (came : List Piece) (session : SessionState) (s : FlowsState) (moment : ℕ) →
    Goes came s (overdue_done s (overdue_in session s moment))

-- ---- packets

-- What goes into a packet is said by the deeds, and just that is read of it.
pub record Puts (came : List Piece) (fl : Flows) (left : FlowsState) (front packet : List ℕ)
    : Type 0 where
  pub deeds : List Deed
  pub pieces : List Piece
  pub done : IsDoneBy came fl (nothing left) deeds
  pub said : AllSaid fl deeds pieces
  pub put : IsPutBehind front packet pieces

-- chunks of flow data
abbrev pub FillingGoes : Type 0
FillingGoes = (came : List Piece) (pace : Pace) (s : FlowsState) (front : List ℕ) (fl : Flows) →
    Shows s fl → Puts came fl (with_sending s (filled pace s.sending front).sending) front
    (filled pace s.sending front).packet

-- acks
abbrev pub AckingGoes : Type 0
AckingGoes = (came : List Piece) (s : FlowsState) (front : List ℕ) (fl : Flows) → Shows s fl →
    Puts came fl (after_acks s front) front (acks_put s.taking front).packet

-- A packet that goes on so is read so, whatever its head.
abbrev pub WhatIsPutIsRead : Type 0
WhatIsPutIsRead = (head : PacketHead) (front packet : List ℕ) (pieces : List Piece)
    (whole : Whole) → HeadSpells head front → IsPutBehind front packet pieces →
    PacketReading packet (Ok whole) →
    pieces_of (visible (all_placed_from whole.start whole.chunks)) ≡ pieces

-- acks that find no memory aren't owed any more
abbrev pub ForgettingGoes : Type 0
ForgettingGoes = (came : List Piece) (s : FlowsState) → Goes came s (nothing (owing_none s))

-- ---- what is read

-- Numbers that are read are of 64 bits, behind numbers that are.
abbrev pub WhatIsReadFits : Type 0
WhatIsReadFits = (before : Option Numbers) (kind : ℕ) (payload : List ℕ) (chunk : DataChunk) →
    AreSmall before → data_reading before kind payload ≡ Ok chunk →
    FitsIn chunk × AreSmall (before_next (Ok chunk))

-- ---- the beginning, and one thing after another

abbrev pub TheFirstFlowsAreNone : Type 0
TheFirstFlowsAreNone = Shows no_flows none_yet

abbrev pub OneAfterAnotherGoes : Type 0
OneAfterAnotherGoes = (came : List Piece) (s : FlowsState) (d : Did) (next : FlowsState → Did) →
    Goes came s d → Goes came d.flows (next d.flows) → Goes came s (then_do d next)
