-- What keyings give that nothing refuses.
use Rattle.std.specs.Prelude.{ℕ, ◌≡◌, ◌≢◌, ◌+◌, ◌-◌, ◌^◌, ◌<◌, true, List, [], ◌∷◌, ◌++◌, take, Some, None, Ok}
use Rattle.std.specs.List.{AllByRecursion}
use Rattle.std.specs.FinMap.{get}
use Rattle.crypto_profile.specs.declared.keys.Context.{Context}
use Rattle.crypto_profile.specs.declared.keys.Context.TheVariants.{Startup}
use Rattle.crypto_profile.specs.declared.group.GroupSecret.{GroupSecret}
use Rattle.crypto_profile.specs.Sealing.{sealed_in}
use Rattle.packet_scramble.specs.Datagram.{datagram as datagram_of}
use Rattle.rtmfp_forms.specs.Address.{AddressParts}
use Rattle.rtmfp_packet.specs.Whole.{Whole}
use Rattle.rtmfp_packet.specs.Walk.{Placed}
use Rattle.rtmfp_packet.specs.Reading.{PacketReading}
use Rattle.rtmfp_chunks.specs.declared.kinds.TheConstants.{RIKEYING}
use Rattle.rtmfp_chunks.specs.Chunk.{Ping, Spells}
use Rattle.glare_core.specs.declared.facts.Fact.{Fact}
use Rattle.glare_core.specs.declared.facts.Fact.TheVariants.{Born, Opened}
use Rattle.glare_core.specs.declared.facts.Joined.{Joined}
use Rattle.glare_core.specs.Standing.{count}
use Rattle.glare_core.specs.Tells.{as_initiator}
use Rattle.startup.specs.declared.aim.Aim.TheVariants.{AtPeer}
use Rattle.startup.specs.State.{AttemptState}
use Rattle.endpoint_model.specs.declared.walk.Walk.{Walk}
use Rattle.endpoint_model.specs.declared.config.Draws.{Draws}
use Rattle.endpoint_model.specs.declared.place.Place.TheVariants.{Startup as StartupPlace, Attempt}
use Rattle.endpoint_model.specs.declared.entry.Entry.{Entry}
use Rattle.endpoint_model.specs.declared.entry.Entry.TheVariants.{Fact as FactEntry, Out}
use Rattle.endpoint_model.specs.Views.{out_in}
use Rattle.endpoint_model.specs.Event.{Setup, own_of, Receive, Answer, Began, Searching, Succeeds, Done, NotOpened, NotSought, Refused, NotAdded, Stopped, OutOfMemory, Event, moment_at}
use Rattle.endpoint_laws.specs.Past.{Past, facts_of, onto, last_moment, past_of_log, out_count, outs_of}
use Rattle.endpoint_laws.specs.Contexts.{Secrets, Knows, session_context}
use Rattle.endpoint_model.specs.Keying.{chunks_of}
use Rattle.endpoint_laws.specs.Admissible.{Admissible, Offer}
use Rattle.endpoint_laws.specs.Lawful.{AnswersAttempt}
use Rattle.endpoint_model.specs.State.{State, at_moment}
use Rattle.endpoint_model.specs.Admission.{Admitted, admission, attempt_group}
use Rattle.endpoint_model.specs.Causes.{chunk_cause}
use Rattle.endpoint_model.specs.Effects.{chunks_did, outset}
use Rattle.endpoint_model.specs.Log.{StandsFor, Step}
use Rattle.endpoint_laws.specs.Laws.{IsSetup, IsCall, AreCalls}

-- ---- initiators' keyings

-- a session that was born at this end, as the end has it whose attempt it was
abbrev pub at_initiator : List ℕ → Joined → Joined
at_initiator own j = record {
  peer = own;
  n = j.n;
  near = j.far;
  far = j.near;
  ni = j.ni;
  nr = j.nr;
  k = j.k;
}

-- The session has what was offered, the nonce that was drawn, and the count of this end's attempts.
pub record IsOfOffer (offer : Offer) (nonce : List ℕ) (facts : List Fact) (j : Joined)
    : Type 0 where
  pub peer : j.peer ≡ offer.peer
  pub n : j.n ≡ offer.n
  pub ni : j.ni ≡ offer.ni
  pub far : j.far ≡ offer.far
  pub nr : j.nr ≡ nonce
  pub k : j.k ≡ count facts

-- Among these entries is the Born of the session, and directly after it a datagram to this address
-- with the session's keying: at the initiator it answers the attempt.
pub record IsBornAndTold (secrets : Secrets) (setup : Setup) (generation : ℕ) (to : AddressParts)
    (j : Joined) (entries : List Entry) : Type 0 where
  pub before : List Entry
  pub sent : List ℕ
  pub later : List Entry
  pub are : entries ≡ before ++ FactEntry (Born j) ∷ Out to sent (Startup generation) ∷ later
  pub answers : AnswersAttempt secrets generation (at_initiator (own_of setup) j) sent

-- a datagram that an end was given
abbrev pub taken_event : ℕ → AddressParts → List ℕ → Draws → Answer → List Entry → Event
taken_event moment from datagram draws answer entries =
    record {
      moment = moment;
      call = Receive from datagram draws;
      answer = answer;
      entries = entries;
    }

-- The call has gone through these of the datagram's chunks: all of them, or those before the one
-- that found no memory.
abbrev pub WentThrough : Answer → List Placed → List Placed → Type 0
WentThrough (Began n) chunks gone = ⊥
WentThrough (Searching near) chunks gone = ⊥
WentThrough (Succeeds generation) chunks gone = ⊥
WentThrough Done chunks gone = gone ≡ chunks
WentThrough (NotOpened refusal) chunks gone = ⊥
WentThrough (NotSought refusal) chunks gone = ⊥
WentThrough (Refused refusal) chunks gone = ⊥
WentThrough (NotAdded refusal) chunks gone = ⊥
WentThrough (Stopped stop) chunks gone = (stop.taken ≡ true) × (gone ≡ take stop.chunks chunks)
WentThrough OutOfMemory chunks gone = ⊥

-- The chunks before this one, of those that were gone through. None of them has its type.
pub record IsBehind (front : List Placed) (chunk : Placed) (gone : List Placed) : Type 0 where
  pub back : List Placed
  pub whole : gone ≡ front ++ chunk ∷ back
  pub others : AllByRecursion (λ c. c.kind ≢ chunk.kind) front

-- What an end did up to a chunk of a datagram that it takes outside of sessions in this
-- generation: what its log says, and what the chunks before added. Where none of them answers a
-- search, these state nothing.
abbrev pub done_up_to : ℕ → List Event → State → ℕ → AddressParts → Draws → List Placed →
    Past
done_up_to generation log s moment from draws front =
    onto (at_moment s moment).moment
    (chunks_did (StartupPlace generation) from draws outset (at_moment s moment)
    front).entries
    (past_of_log log)

-- how many datagrams went out, among entries
abbrev pub outs_in : List Entry → ℕ
outs_in [] = 0
outs_in (entry ∷ rest) = out_count (out_in entry) + outs_in rest

-- Where the end with this log takes a datagram whose first initiator's keying is admissible by what
-- was done up to it, and goes through this keying, the session of its offer is born and told in
-- that call. The peer's fingerprint isn't the own one, and fewer than 2^64 - 1 datagrams went out,
-- so that each has a number.
abbrev pub AdmissibleKeyingsBear : Type 0
AdmissibleKeyingsBear = (secrets : Secrets) (setup : Setup) (log : List Event) (s t : State)
    (moment generation : ℕ) (from : AddressParts) (datagram : List ℕ) (draws : Draws)
    (answer : Answer) (entries : List Entry) (offer : Offer) (front gone : List Placed)
    → Knows secrets setup (past_of_log log) → IsSetup setup → AreCalls log → StandsFor setup log s
    → IsCall (Receive from datagram draws)
    → Step s (taken_event moment from datagram draws answer entries) t
    → (a : Admissible secrets setup (done_up_to generation log s moment from draws front)
    (moment_at (last_moment 0 log) (taken_event moment from datagram draws answer entries)) from
    datagram offer)
    → a.generation ≡ generation → WentThrough answer (chunks_of a.packet) gone
    → IsBehind front a.chunk gone
    → offer.peer ≢ own_of setup → outs_of (past_of_log log) + outs_in entries < 2 ^ 64 - 1
    → (j : Joined) ×
    IsOfOffer offer draws.nonce (facts_of (done_up_to generation log s moment from draws front)) j ×
    IsBornAndTold secrets setup generation from j entries

-- ---- responders' keyings

-- The datagram goes under this session ID, is sealed in this context, and its only chunk is a ping
-- without bytes.
pub record IsPing (secret : List ℕ) (context : Context) (sid : ℕ) (sent : List ℕ) : Type 0 where
  pub number : List ℕ
  pub plain : List ℕ
  pub is : sent ≡ datagram_of sid (sealed_in secret context sid number plain)
  pub packet : Whole
  pub reads : PacketReading plain (Ok packet)
  pub chunk : Placed
  pub only : chunks_of packet ≡ chunk ∷ []
  pub spells : Spells (Ping []) chunk.kind chunk.payload

-- Among these entries is the Opened of the attempt under this session ID, and directly after it a
-- ping to this address in its session, which has the group's secret of the attempt.
pub record OpensItsSession (s : State) (near : ℕ) (to : AddressParts) (entries : List Entry)
    : Type 0 where
  pub attempt : AttemptState
  pub there : get s.startup.attempts near ≡ Some attempt
  pub group : GroupSecret
  pub group_is : group ≡ attempt_group s.group (Some attempt)
  pub j : Joined
  pub aim : attempt.aim ≡ AtPeer j.peer j.n
  pub ni : j.ni ≡ attempt.ni
  pub id : j.near ≡ near
  pub before : List Entry
  pub sent : List ℕ
  pub later : List Entry
  pub are : entries ≡ before ++ FactEntry (Opened j)
      ∷ Out to sent
      (session_context group.generation (as_initiator s.startup.ledger.own j) true) ∷ later
  pub ping : IsPing group.secret
      (session_context group.generation (as_initiator s.startup.ledger.own j) true) j.far sent

-- Where an end takes a datagram under the session ID of an attempt, and goes through a responder's
-- keying against which no cause stands after the chunks before it, the attempt's session is opened
-- in that call.
abbrev pub KeyingsWithoutCauseOpen : Type 0
KeyingsWithoutCauseOpen = (s t u : State) (moment near generation : ℕ) (from : AddressParts)
    (datagram : List ℕ) (draws : Draws) (answer : Answer) (entries : List Entry) (packet : Whole)
    (front back : List Placed) (c : Placed) (walk : Walk)
    → Step s (taken_event moment from datagram draws answer entries) t
    → admission (at_moment s moment) datagram ≡ Admitted u (Attempt near generation) packet
    → WentThrough answer (chunks_of packet) (front ++ c ∷ back)
    → c.kind ≡ RIKEYING →
    chunk_cause (chunks_did (Attempt near generation) from draws outset u front).state
    (Attempt near generation)
    walk from c ≡ None
    → OpensItsSession (chunks_did (Attempt near generation) from draws outset u front).state
    near from entries
