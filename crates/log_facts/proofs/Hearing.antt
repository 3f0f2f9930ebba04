-- What a session took is told, and what is told it took.
use Rattle.std.proofs.Common.{ℕ, ◌≡◌, Bool, true, false, ◌&&◌, List, [], ◌∷◌, Option, Some, None, Ok, inl, inr, refl, sym, ap, subst, ◌∙◌}
use Rattle.crypto_profile.specs.declared.keys.Context.{Context}
use Rattle.packet_scramble.specs.Datagram.{sid_of}
use Rattle.rtmfp_packet.specs.Whole.{Whole}
use Rattle.rtmfp_packet.specs.Reading.{PacketReading}
use Rattle.rtmfp_chunks.specs.Chunk.{Chunk, Close as CloseChunk, CloseAck}
use Rattle.glare_core.specs.declared.facts.Fact.{Fact}
use Rattle.glare_core.specs.declared.facts.Held.{Held}
use Rattle.glare_core.specs.declared.facts.Held.TheVariants.{Opening, HalfOpen, KeptAsResponder, KeptAsInitiator}
use Rattle.glare_core.specs.declared.facts.Joined.{Joined}
use Rattle.glare_core.specs.declared.facts.Why.TheVariants.{Far}
use Rattle.glare_core.specs.Standing.{held}
use Rattle.glare_core.specs.Stands.{ConfirmedStands, EndedStands}
use Rattle.glare_core.specs.Things.{IsSession}
use Rattle.endpoint_model.specs.Event.{Setup, Call, ReceiveCall, receive_in}
use Rattle.endpoint_model.specs.Keying.{chunks_of}
use Rattle.endpoint_laws.specs.Past.{Past, IsClosing, before_event, fact_done, facts_of}
use Rattle.endpoint_laws.specs.Contexts.{Secrets, Begins, BegunUnder, OpensUnder, ReadsUnder, StandsUnder, inward}
use Rattle.endpoint_laws.specs.Taken.{TakesChunkIn}
use Rattle.endpoint_laws.specs.Lawful.{ConfirmedLine, FarLine, OpensInSession, TakesUnderIn}
use Rattle.log_digest.specs.declared.spot.Spot.{Spot}
use Rattle.log_digest.specs.declared.spot.Spot.TheVariants.{Searching, Holding, Closing}
use Rattle.log_digest.specs.Spots.{IsSpotOf}
use Rattle.log_lines.specs.Decisions.{is_session}
use Rattle.log_packets.specs.Opening.{is_sid, sid_in}
use Rattle.log_packets.specs.Asked.{IsChunk, SomeChunk, Tells}
use Rattle.log_arrivals.specs.declared.arrival.Arrival.{Arrival}
use Rattle.log_arrivals.specs.declared.arrival.Arrival.TheVariants.{Nowhere, Startup as InStartup, Session as InSession}
use Rattle.log_arrivals.specs.Arrivals.{ArrivesIn}
use Rattle.log_facts.specs.Coming.{Comes, IsClosedByAnswer, IsTaken, IsTakenBy, StoodAlone, StoodBefore, TakesIt, is_closing, is_in_session, sid_under}
use Rattle.log_facts.proofs.Arriving.{one_of, in_session, is_under, sid_is}
use Rattle.log_facts.proofs.Answering.{not_both, not_so, not_some}

both_are : (a b : Bool) → (a && b) ≡ true → (a ≡ true) × (b ≡ true)
both_are true b e = (refl, e)
both_are false b e = absurd cc

both : (a b : Bool) → a ≡ true → b ≡ true → (a && b) ≡ true
both true b p q = q
both false b p q = absurd cc

at_session : (arrival : Arrival) → is_in_session arrival ≡ true → arrival ≡ InSession
at_session Nowhere e = absurd cc
at_session (InStartup g) e = absurd cc
at_session InSession e = refl

-- ---- what is confirmed

module _ (secrets : Secrets) (setup : Setup) (past : Past) (plain peer : List ℕ) (near : ℕ) (arrival : Arrival) where
  abbrev confirms : Option ReceiveCall → Bool
  confirms o = is_in_session arrival && is_sid (sid_under o) near

  confirmed_there : (o : Option ReceiveCall) → ArrivesIn secrets setup (before_event past) o plain arrival → (j : Joined) → (arrival ≡ InSession → StoodAlone past near (HalfOpen j)) → confirms o ≡ true →
      TakesUnderIn secrets setup past o near (HalfOpen j)
  confirmed_there None a j stood e = let two = both_are (is_in_session arrival) false e in absurd (not_both false refl two.1)
  confirmed_there (Some r) a j stood e =
      let two = both_are (is_in_session arrival) (is_sid (sid_in r.datagram) near) e in
      let in_one : arrival ≡ InSession = at_session arrival two.0 in
      let found = a.session in_one in
      let id : sid_of r.datagram ≡ near = sid_is r.datagram near two.1 in
      let at : OpensInSession secrets setup (before_event past) near found.0 r.datagram = subst (λ (n : ℕ). OpensInSession secrets setup (before_event past) n found.0 r.datagram) id found.1.at in
      subst (λ (t : Held). OpensInSession secrets setup (before_event past) near t r.datagram) ((stood in_one).alone found.0 at.stands) at

  confirmed_back : (o : Option ReceiveCall) → ArrivesIn secrets setup (before_event past) o plain arrival → (j : Joined) → TakesUnderIn secrets setup past o near (HalfOpen j) → confirms o ≡ true
  confirmed_back None a j t = absurd t
  confirmed_back (Some r) a j t =
      let told = a.goes_on near (HalfOpen j) t in
      both (is_in_session arrival) (is_sid (sid_in r.datagram) near) (ap is_in_session told.0) (is_under secrets (inward setup t.generation (HalfOpen j)) near r.datagram t.plain t.opens)

  pub confirmed_tells : (call : Call) → ArrivesIn secrets setup (before_event past) (receive_in call) plain arrival → ConfirmedStands (facts_of past) peer near →
      ((j : Joined) → arrival ≡ InSession → held peer (facts_of past) ≡ Some (HalfOpen j) → StoodAlone past j.near (HalfOpen j)) →
      (it : Bool) → it ≡ confirms (receive_in call) → Tells (ConfirmedLine secrets setup call past peer near) it
  confirmed_tells call a s stood it is = record {
    yes = λ e. record { j = s.j; session = s.session; by = confirmed_there (receive_in call) a s.j (λ i. subst (λ (n : ℕ). StoodAlone past n (HalfOpen s.j)) (sym s.id) (stood s.j i s.session)) (sym is ∙ e) };
    no = λ (l : ConfirmedLine secrets setup call past peer near). is ∙ confirmed_back (receive_in call) a l.j l.by;
  }

-- ---- what sessions take

no_begin : (n near : ℕ) (ni : List ℕ) (o : Option Fact) → Begins (Opening n near ni) o → ⊥
no_begin n near ni None b = b
no_begin n near ni (Some fact) b = b

attempt_never : (secrets : Secrets) (setup : Setup) (n near : ℕ) (ni : List ℕ) (g : ℕ) (past : Past) → BegunUnder secrets setup (Opening n near ni) g past → ⊥
attempt_never secrets setup n near ni g [] b = b
attempt_never secrets setup n near ni g (s ∷ earlier) (inl b) = no_begin n near ni (fact_done s.what) b.0
attempt_never secrets setup n near ni g (s ∷ earlier) (inr b) = attempt_never secrets setup n near ni g earlier b.1

-- What began is a session.
begun_session : (secrets : Secrets) (setup : Setup) (thing : Held) (g : ℕ) (past : Past) → BegunUnder secrets setup thing g past → IsSession thing
begun_session secrets setup (Opening n near ni) g past b = absurd (attempt_never secrets setup n near ni g past b)
begun_session secrets setup (HalfOpen j) g past b = tt
begun_session secrets setup (KeptAsResponder j) g past b = tt
begun_session secrets setup (KeptAsInitiator j) g past b = tt

module _ (secrets : Secrets) (setup : Setup) (past : Past) (plain : List ℕ) (arrival : Arrival) (packet : Option Whole) (took : Bool) (near : ℕ) (chunk : Chunk) where
  same_packet : (r : ReceiveCall) → Comes secrets setup past (Some r) plain arrival packet → (thing : Held) (g : ℕ) → StoodBefore secrets setup past thing near g →
      (whole : Whole) → ReadsUnder secrets (inward setup g thing) near r.datagram whole → packet ≡ Some whole
  same_packet r c thing g was whole reads =
      let at : OpensInSession secrets setup (before_event past) near was.was r.datagram = record {
        stands = was.stands;
        is_session = was.is_session;
        generation = g;
        begun = was.begun;
        plain = reads.plain;
        opens = subst (λ (context : Context). OpensUnder secrets context near r.datagram reads.plain) (sym was.same) reads.opens;
      } in
      let told = c.arrives.goes_on near was.was at in
      (in_session secrets setup past r plain arrival packet c told.0).only whole (subst (λ (p : List ℕ). PacketReading p (Ok whole)) told.2 reads.reads)

  -- What is so where a session takes the datagram, and it has the chunk.
  record Took (o : Option ReceiveCall) : Type 0 where
    goes : (took && is_sid (sid_under o) near) ≡ true
    whole : Whole
    is : packet ≡ Some whole
    some : SomeChunk (IsChunk chunk) (chunks_of whole)

  takes_there : (o : Option ReceiveCall) → Comes secrets setup past o plain arrival packet → IsTaken secrets setup past o took → (thing : Held) → StandsUnder past near thing → IsSession thing →
      (took && is_sid (sid_under o) near) ≡ true → (whole : Whole) → packet ≡ Some whole → SomeChunk (IsChunk chunk) (chunks_of whole) → TakesChunkIn secrets setup past thing near o chunk
  takes_there None c t thing stands session goes whole p some = absurd (not_both false refl (both_are took false goes).1)
  takes_there (Some r) c t thing stands session goes whole p some =
      let two = both_are took (is_sid (sid_in r.datagram) near) goes in
      let id : sid_of r.datagram ≡ near = sid_is r.datagram near two.1 in
      let b : IsTakenBy secrets setup past r thing near took = subst (λ (n : ℕ). IsTakenBy secrets setup past r thing n took) id (t thing (subst (λ (n : ℕ). StandsUnder past n thing) (sym id) stands) session) in
      let k : TakesIt secrets setup past thing near r = b.tells.yes two.0 in
      let found : packet ≡ Some k.passes.packet = same_packet r c thing k.generation (b.stood two.0 k.generation k.begun) k.passes.packet k.passes.reads in
      let s : SomeChunk (IsChunk chunk) (chunks_of k.passes.packet) = subst (λ (w : Whole). SomeChunk (IsChunk chunk) (chunks_of w)) (one_of whole k.passes.packet (sym p ∙ found)) some in
      record { moment = k.moment; before = k.before; last = k.last; generation = k.generation; begun = k.begun; passes = k.passes; placed = s.chunk; among = s.among; spells = s.is }

  takes_back : (o : Option ReceiveCall) → Comes secrets setup past o plain arrival packet → IsTaken secrets setup past o took → (thing : Held) → StandsUnder past near thing → TakesChunkIn secrets setup past thing near o chunk → Took o
  takes_back None c t thing stands k = absurd k
  takes_back (Some r) c t thing stands k =
      let session : IsSession thing = begun_session secrets setup thing k.generation past k.begun in
      let id : sid_of r.datagram ≡ near = k.passes.reads.opens.id in
      let b : IsTakenBy secrets setup past r thing near took = subst (λ (n : ℕ). IsTakenBy secrets setup past r thing n took) id (t thing (subst (λ (n : ℕ). StandsUnder past n thing) (sym id) stands) session) in
      let it : took ≡ true = b.tells.no (record { moment = k.moment; before = k.before; last = k.last; generation = k.generation; begun = k.begun; passes = k.passes }) in
      record {
        goes = both took (is_sid (sid_in r.datagram) near) it (is_under secrets (inward setup k.generation thing) near r.datagram k.passes.reads.plain k.passes.reads.opens);
        whole = k.passes.packet;
        is = same_packet r c thing k.generation (b.stood it k.generation k.begun) k.passes.packet k.passes.reads;
        some = record { chunk = k.placed; among = k.among; is = k.spells };
      }

  module _ (o : Option ReceiveCall) (c : Comes secrets setup past o plain arrival packet) (t : IsTaken secrets setup past o took) (P : Type 0) (back : P → (thing : Held) × StandsUnder past near thing × TakesChunkIn secrets setup past thing near o chunk) where
    came : P → Took o
    came p = let b = back p in takes_back o c t b.0 b.1 b.2

    pub not_taken : (taken : Bool) → taken ≡ (took && is_sid (sid_under o) near) → taken ≡ false → Tells P false
    not_taken taken is none = not_so P (λ p. not_both taken none (is ∙ (came p).goes))

    pub nothing_read : packet ≡ None → Tells P false
    nothing_read none = not_so P (λ p. not_some packet (came p).whole none (came p).is)

    pub chunk_tells : (thing : Held) → StandsUnder past near thing → IsSession thing → (TakesChunkIn secrets setup past thing near o chunk → P) → (taken it : Bool) → taken ≡ (took && is_sid (sid_under o) near) → taken ≡ true →
        (whole : Whole) → packet ≡ Some whole → Tells (SomeChunk (IsChunk chunk) (chunks_of whole)) it → Tells P it
    chunk_tells thing stands session there taken it is takes whole p tells = record {
      yes = λ e. there (takes_there o c t thing stands session (sym is ∙ takes) whole p (tells.yes e));
      no = λ q. tells.no (subst (λ (w : Whole). SomeChunk (IsChunk chunk) (chunks_of w)) (one_of (came q).whole whole (sym (came q).is ∙ p)) (came q).some);
    }

-- ---- the end of a session that the peer closed

module _ (secrets : Secrets) (setup : Setup) (past : Past) (own peer : List ℕ) (near : ℕ) (s : EndedStands own (facts_of past) peer near Far) where
  pub far_stands : StandsUnder past near s.h
  far_stands = inl (record { peer = peer; is_held = s.thing; id = sym s.id })

  pub far_there : (call : Call) → TakesChunkIn secrets setup past s.h near (receive_in call) CloseChunk → FarLine secrets setup call past peer near
  far_there call by = record { thing = s.h; is_held = s.thing; by = by }

  pub far_back : (call : Call) → FarLine secrets setup call past peer near → (thing : Held) × StandsUnder past near thing × TakesChunkIn secrets setup past thing near (receive_in call) CloseChunk
  far_back call l = (s.h, far_stands, subst (λ (t : Held). TakesChunkIn secrets setup past t near (receive_in call) CloseChunk) (one_of l.thing s.h (sym l.is_held ∙ s.thing)) l.by)

-- ---- the end of a closing

is_session_of : (thing : Held) → is_session thing ≡ true → IsSession thing
is_session_of (Opening n near ni) e = absurd cc
is_session_of (HalfOpen j) e = tt
is_session_of (KeptAsResponder j) e = tt
is_session_of (KeptAsInitiator j) e = tt

session_is : (thing : Held) → IsSession thing → is_session thing ≡ true
session_is (Opening n near ni) s = absurd s
session_is (HalfOpen j) s = refl
session_is (KeptAsResponder j) s = refl
session_is (KeptAsInitiator j) s = refl

found_closing : (spot : Option Spot) → is_closing spot ≡ true → (thing : Held) × (at : ℕ) × (spot ≡ Some (Closing thing at)) × IsSession thing
found_closing None e = absurd cc
found_closing (Some (Searching name tag drawn at)) e = absurd cc
found_closing (Some (Holding peer at)) e = absurd cc
found_closing (Some (Closing thing at)) e = (thing, at, refl, is_session_of thing e)

took_session : (secrets : Secrets) (setup : Setup) (past : Past) (thing : Held) (near : ℕ) (o : Option ReceiveCall) (chunk : Chunk) → TakesChunkIn secrets setup past thing near o chunk → IsSession thing
took_session secrets setup past thing near None chunk k = absurd k
took_session secrets setup past thing near (Some r) chunk k = begun_session secrets setup thing k.generation past k.begun

module _ (secrets : Secrets) (setup : Setup) (past : Past) (near : ℕ) (call : Call) where
  pub closed_back : IsClosedByAnswer secrets setup call past near → (thing : Held) × StandsUnder past near thing × TakesChunkIn secrets setup past thing near (receive_in call) CloseAck
  closed_back l = (l.thing, inr (l.at, l.closing), l.by)

  module _ (spot : Option Spot) (is : IsSpotOf past near spot) (closing : Bool) (test : closing ≡ is_closing spot) where
    pub not_closing : closing ≡ false → Tells (IsClosedByAnswer secrets setup call past near) false
    not_closing none = not_so _ (λ l. not_both closing none (test ∙ ap is_closing (is.closing_there l.thing l.at l.closing) ∙ session_is l.thing (took_session secrets setup past l.thing near (receive_in call) CloseAck l.by)))

    -- the session that is closing
    pub record IsThere : Type 0 where
      pub thing : Held
      pub stands : StandsUnder past near thing
      pub session : IsSession thing
      pub there : TakesChunkIn secrets setup past thing near (receive_in call) CloseAck → IsClosedByAnswer secrets setup call past near

    pub is_there : closing ≡ true → IsThere
    is_there e =
        let found = found_closing spot (sym test ∙ e) in
        let closes : IsClosing near found.0 found.1 past = is.closing_is found.0 found.1 found.2 in
        record { thing = found.0; stands = inr (found.1, closes); session = found.3; there = λ by. record { thing = found.0; at = found.1; closing = closes; by = by } }
