-- The small things of which all is made that an end does, and what a law has to say of each of them.
use Rattle.std.proofs.Common.{◌≡◌, ℕ, ◌+◌, ◌≤◌, List, [], ◌∷◌, ◌++◌, length, map, Bool, true, Option, Some, None}
use Rattle.std.specs.FinMap.{get}
use Rattle.rtmfp_forms.specs.Address.{AddressParts}
use Rattle.rtmfp_chunks.specs.Chunk.{Ping, Close as CloseChunk, CloseAck}
use Rattle.rtmfp_chunks.specs.Writing.{chunk_bytes}
use Rattle.rtmfp_data_chunks.specs.Chunk.{DataChunk}
use Rattle.rtmfp_data_chunks.specs.Fitting.{FitsIn}
use Rattle.crypto_profile.specs.declared.group.GroupSecret.{GroupSecret}
use Rattle.crypto_profile.specs.declared.keys.Context.TheVariants.{Startup as StartupContext}
use Rattle.crypto_profile.specs.Keys.{Keys}
use Rattle.glare_core.specs.declared.facts.Fact.{Fact}
use Rattle.glare_core.specs.declared.facts.Fact.TheVariants.{Started, Born, Opened, Confirmed, Ended}
use Rattle.glare_core.specs.declared.facts.Held.{Held}
use Rattle.glare_core.specs.declared.facts.Joined.{Joined}
use Rattle.glare_core.specs.declared.facts.Why.{Why}
use Rattle.glare_core.specs.Calls.{way_made}
use Rattle.rtmfp_base.specs.declared.cause.Cause.{Cause}
use Rattle.startup.specs.State.{StartupState}
use Rattle.session_core.specs.Session.{SessionState, context_of}
use Rattle.session_core.specs.Sealed.{after_seal}
use Rattle.session_flows.specs.Keeping.{Stated, with_sending}
use Rattle.session_flows.specs.Causes.{chunk_cause as flows_cause}
use Rattle.session_flows.specs.Chunks.{chunk_done, session_after}
use Rattle.session_flows.specs.Owing.{after_acks, owing_none, owes}
use Rattle.session_flows.specs.Timing.{overdue_in, overdue_done}
use Rattle.rtmfp_fragments.specs.Pieces.{PieceParts}
use Rattle.introducer.specs.Directory.{AddressRows}
use Rattle.endpoint_model.specs.declared.row.Row.{Row}
use Rattle.endpoint_model.specs.declared.entry.Entry.TheVariants.{Fact as FactEntry, Moved, Sought, Unsought, Out}
use Rattle.endpoint_model.specs.State.{State, Did, nothing, then_do, fact_entries, with_startup, with_row, with_session, without_row, with_sealed}
use Rattle.endpoint_model.specs.Succession.{learn_refusal, learning, advancing_to}
use Rattle.endpoint_model.specs.Sending.{packet_head, startup_datagram, session_packet, session_datagram, sent_bodies, pieces_for, piece_body, has_counts, is_long}
use Rattle.endpoint_model.specs.InSessions.{closed}
use Rattle.endpoint_model.specs.Gathering.{gathered_more}
use Rattle.endpoint_model.specs.FlowCall.{FlowCall, flow_refusal, flow_did}
use Rattle.endpoint_model.specs.OnFlows.{flow_entry, flows_done}
use Rattle.endpoint_model.specs.FlowChunks.{flow_taken_by, acked_by, unowed_by}
use Rattle.endpoint_model.specs.FlowTimes.{late_marked, late_at, data_packed, data_sent}
use Rattle.endpoint_model.specs.declared.place.Place.TheVariants.{Startup as StartupPlace}
use Rattle.endpoint_model.specs.Admission.{attempt_group, group_at}
use Rattle.endpoint_model.specs.Effects.{discarded, with_born, with_opened}
use Rattle.endpoint_laws.proofs.Walks.{Steps}
use Rattle.endpoint_laws.proofs.Kin.{IsKin}
use Rattle.endpoint_laws.proofs.Hearing.{Descends}

-- ---- the row of a session

-- The session goes on, its flows and the pieces that it holds are the same, and no fewer of its
-- packets were sent in pieces.
pub record GoesOn (old new : Row) : Type 0 where
  pub descends : Descends old.session new.session
  pub flows : new.flows ≡ old.flows
  pub pieces : new.gathering ≡ old.gathering
  pub packets : old.packets ≤ new.packets

-- what is done with the flows of a session: a call, a chunk that came, a packet of acks, acks that
-- are given up, numbers that are lost by time, a message that is sent no longer, a packet of data
pub data FlowThing : Type 0 where
  Called : (call : FlowCall) → FlowThing
  Came : (chunk : DataChunk) → FlowThing
  Acked : FlowThing
  Unowed : FlowThing
  Late : FlowThing
  Overdue : (flow seq : ℕ) → FlowThing
  Packed : FlowThing

-- the row that it leaves
abbrev pub row_after : ℕ → Row → FlowThing → Row
row_after moment row (Called call) = record row { flows = (flow_did row.flows call).flows }
row_after moment row (Came chunk) = record row { session = session_after row.session row.flows chunk; flows = (chunk_done row.flows chunk).flows }
row_after moment row Acked = record row { flows = after_acks row.flows (packet_head row.session moment) }
row_after moment row Unowed = record row { flows = owing_none row.flows }
row_after moment row Late = late_marked moment row
row_after moment row (Overdue flow seq) = record row { flows = (overdue_done row.flows (Some (flow, seq))).flows }
row_after moment row Packed = record row { flows = with_sending row.flows (data_packed row moment).sending }

-- what it states
abbrev pub stated_of : Row → FlowThing → List Stated
stated_of row (Called call) = (flow_did row.flows call).stated
stated_of row (Came chunk) = (chunk_done row.flows chunk).stated
stated_of row Acked = []
stated_of row Unowed = []
stated_of row Late = []
stated_of row (Overdue flow seq) = (overdue_done row.flows (Some (flow, seq))).stated
stated_of row Packed = []

-- A call isn't refused, and a chunk was read and isn't discarded.
abbrev pub MayBe : Row → FlowThing → Type 0
MayBe row (Called call) = flow_refusal row.flows call ≡ None
MayBe row (Came chunk) = FitsIn chunk × (flows_cause row.session row.flows chunk ≡ None)
MayBe row thing = Unit {0}

-- all of them but a chunk that came
abbrev pub IsNoChunk : FlowThing → Type 0
IsNoChunk (Came chunk) = ⊥
IsNoChunk thing = Unit {0}

abbrev pub on_flows : State → ℕ → Row → FlowThing → Did
on_flows s near row thing = record { state = with_row s near (row_after s.moment row thing); entries = map (flow_entry near) (stated_of row thing) }

-- a session is born under this secret of the group, and this makes way for it
abbrev pub birth : State → Option Fact → Joined → AddressParts → GroupSecret → Did
birth s ended j from g = record { state = with_born s ended (Born j) from g; entries = fact_entries ended ++ FactEntry (Born j) ∷ [] }

abbrev pub stated : State → StartupState → Fact → Did
stated s startup fact = record { state = with_startup s startup; entries = FactEntry fact ∷ [] }

-- a search begins, and is over
abbrev pub began : State → StartupState → ℕ → List ℕ → Did
began s startup near name = record { state = with_startup s startup; entries = Sought near name ∷ [] }

abbrev pub given_up : State → StartupState → ℕ → Why → Did
given_up s startup near why = record { state = with_startup s startup; entries = Unsought near why ∷ [] }

-- ---- a packet in pieces

-- the pieces of the packet with this body
abbrev pub its_pieces : State → Row → List ℕ → List PieceParts
its_pieces s row body = pieces_for s (session_packet row.session s.moment body)

-- The packet takes its ID, and each piece goes out in a packet of its own.
abbrev pub in_pieces : State → ℕ → Row → AddressParts → List ℕ → Did
in_pieces s near row to body =
    then_do (nothing (with_row s near (record row { packets = row.packets + 1 })))
    (λ t. sent_bodies t near to (map (piece_body (row.packets + 1)) (its_pieces s row body)))

-- ---- what a law says

-- Of nothing, of one thing after another, of a datagram, in the startup context and in a session, and of a packet in pieces. Of the bodies that go out in sessions something may be known.
pub record Sends (Body : List ℕ → Type 0) (P : State → Did → Type 0) : Type 0 where
  pub steps : Steps P
  pub out : (s : State) (generation : ℕ) (keys : Keys) (to : AddressParts) (sid : ℕ) (plain : List ℕ) →
      P s (record { state = with_sealed s (s.sealed + 1); entries = Out to (startup_datagram s keys sid plain) (StartupContext generation) ∷ [] })
  pub out_in : (s : State) (near : ℕ) (row : Row) (to : AddressParts) (body : List ℕ) → get s.sessions near ≡ Some row → Body body →
      P s (record { state = with_session s near row (after_seal row.session); entries = Out to (session_datagram row.session s.moment body) (context_of row.session true) ∷ [] })
  pub parts : (s : State) (near : ℕ) (row : Row) (to : AddressParts) (body : List ℕ) → get s.sessions near ≡ Some row → Body body → is_long s row body ≡ true → has_counts row (length (its_pieces s row body)) ≡ true →
      P s (in_pieces s near row to body)

-- And of what begins no session, but for what is done with flows: a change of the attempts alone, facts, searches that are over, and sessions that go on and end.
pub record Quiet (Body : List ℕ → Type 0) (P : State → Did → Type 0) : Type 0 where
  pub sends : Sends Body P
  pub attempts : (s : State) (startup : StartupState) → IsKin s startup → P s (nothing (with_startup s startup))
  pub close : Body (chunk_bytes CloseChunk)
  pub close_ack : Body (chunk_bytes CloseAck)
  pub empty_ping : Body (chunk_bytes (Ping []))
  pub discards : (s : State) (at : ℕ) (cause : Cause) → P s (discarded s at cause)
  pub ends : (s : State) (startup : StartupState) (peer : List ℕ) (near : ℕ) (why : Why) → IsKin s startup → P s (stated s startup (Ended peer near why))
  pub unseeks : (s : State) (startup : StartupState) (near : ℕ) (why : Why) → IsKin s startup → P s (given_up s startup near why)
  pub confirms : (s : State) (startup : StartupState) (peer : List ℕ) (near : ℕ) → IsKin s startup → P s (stated s startup (Confirmed peer near))
  pub closes : (s : State) (near : ℕ) → P s (closed s near)
  pub forgets : (s : State) (near : ℕ) → P s (nothing (without_row s near))
  pub moves : (s : State) (near : ℕ) (to : AddressParts) → P s (record { state = s; entries = Moved near to ∷ [] })
  pub goes_on : (s : State) (near : ℕ) (old new : Row) → get s.sessions near ≡ Some old → GoesOn old new → P s (nothing (with_row s near new))

-- And of what an end does with the flows of a session of its own accord.
pub record Timed (Body : List ℕ → Type 0) (P : State → Did → Type 0) : Type 0 where
  pub quiet : Quiet Body P
  pub acks : (s : State) (near : ℕ) (row : Row) → get s.sessions near ≡ Some row → owes row.flows ≡ true → P s (acked_by s near (Some row))
  pub owes_none : (s : State) (near : ℕ) (row : Row) → get s.sessions near ≡ Some row → P s (nothing (unowed_by s near (Some row)))
  pub loses : (s : State) (near : ℕ) (row : Row) → get s.sessions near ≡ Some row → P s (nothing (late_at s near (Some row)))
  pub abandons : (s : State) (near : ℕ) (row : Row) (flow seq : ℕ) → get s.sessions near ≡ Some row → overdue_in row.session row.flows s.moment ≡ Some (flow, seq) → P s (flows_done s near row (overdue_done row.flows (Some (flow, seq))))
  pub packs : (s : State) (near : ℕ) (row : Row) → get s.sessions near ≡ Some row → P s (data_sent s near row)

-- And of a piece of a packet that comes.
abbrev pub Gathers : (State → Did → Type 0) → Type 0
Gathers P = (s : State) (near id : ℕ) (row : Row) (x : PieceParts) → get s.sessions near ≡ Some row → P s (nothing (with_row s near (gathered_more s.moment id x row)))

-- And of calls on flows and of their chunks, and of pieces, whatever body goes out.
pub record All (Body : List ℕ → Type 0) (P : State → Did → Type 0) : Type 0 where
  pub timed : Timed Body P
  pub gathers : Gathers P
  pub bodies : (body : List ℕ) → Body body
  pub calls : (s : State) (near : ℕ) (row : Row) (call : FlowCall) → get s.sessions near ≡ Some row → flow_refusal row.flows call ≡ None → P s (flows_done s near row (flow_did row.flows call))
  pub takes : (s : State) (near : ℕ) (row : Row) (chunk : DataChunk) → get s.sessions near ≡ Some row → FitsIn chunk → flows_cause row.session row.flows chunk ≡ None → P s (flow_taken_by s near chunk (Some row))

-- And of attempts, searches and sessions that begin, by a law of which the one before is a part. A session that is born is under the secret of the generation in which its keying came, and one that is opened under that of its attempt.
pub record Begins (Q P : State → Did → Type 0) : Type 0 where
  pub quiet : (s : State) (d : Did) → Q s d → P s d
  pub steps : Steps P
  pub starts : (s : State) (startup : StartupState) (peer : List ℕ) (n near : ℕ) (ni : List ℕ) → IsKin s startup → P s (stated s startup (Started peer n near ni))
  pub seeks : (s : State) (startup : StartupState) (near : ℕ) (name : List ℕ) → IsKin s startup → P s (began s startup near name)
  pub bears : (s : State) (generation : ℕ) (peer : List ℕ) (o : Option Held) (j : Joined) (from : AddressParts) → P s (birth s (way_made peer o) j from (group_at s (StartupPlace generation)))
  pub opens : (s : State) (startup : StartupState) (j : Joined) (from : AddressParts) → IsKin s startup →
      P s (record { state = with_opened (with_startup s startup) (Opened j) from (attempt_group s.group (get s.startup.attempts j.near)); entries = FactEntry (Opened j) ∷ [] })

-- And of what a datagram leaves of its session before its chunks, and of what no other thing sees.
pub record Enters (P : State → Did → Type 0) : Type 0 where
  pub counts : (s : State) (near : ℕ) (row : Row) (session : SessionState) → get s.sessions near ≡ Some row → P s (nothing (with_session s near row session))
  pub unseen : (s : State) (limit : ℕ) (introduces : Bool) (rows : AddressRows) → P s (nothing (record s { limit = limit; introduces = introduces; redirects = rows }))

-- And of the succession of the group's secrets.
pub record Succession (P : State → Did → Type 0) : Type 0 where
  pub learns : (s : State) (secret : List ℕ) → learn_refusal s secret ≡ None → P s (learning s secret)
  pub advances : (s : State) (next : GroupSecret) → s.next ≡ Some next → P s (advancing_to s (Some next))

-- ---- bodies of which nothing is known

abbrev pub Any : List ℕ → Type 0
Any body = Unit {0}
