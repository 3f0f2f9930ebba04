-- What a packet of one chunk, or of chunks that are no keyings, says of keyings.
use Rattle.std.proofs.Common.{◌≡◌, ◌≢◌, ℕ, ◌+◌, ◌%◌, ◌^◌, ◌<◌, List, [], ◌∷◌, ◌++◌, length, Option, Some, None, Ok, refl, sym, ap, subst, ◌∙◌, cond, Bool, true, false, not, nat_lt, if◌then◌else◌, ◌-◌, ◌/◌, arith, append-nil, append_assoc, length-append, inl, inr}
use Rattle.std.specs.Int.{w16, to_be_bytes}
use Rattle.std.specs.List.{AllByRecursion, flat_map}
use Rattle.rtmfp_packet.specs.declared.head.PacketHead.{PacketHead}
use Rattle.rtmfp_packet.specs.declared.head.Mode.TheVariants.{Startup as StartupMode}
use Rattle.rtmfp_packet.specs.Head.{HeadSpells, IsStamp, head_bytes}
use Rattle.rtmfp_packet.specs.Spelling.{Chunk as Written, IsChunk, chunk_bytes as written_bytes}
use Rattle.rtmfp_packet.specs.Walk.{Placed, is_ignored, all_placed_from, visible}
use Rattle.rtmfp_packet.specs.Whole.{Whole}
use Rattle.rtmfp_packet.specs.Reading.{PacketReading, Reads}
use Rattle.rtmfp_packet.proofs.Flags.{head_bytes-spells}
use Rattle.rtmfp_packet.proofs.Readings.{packet_reading_same}
use Rattle.rtmfp_chunks.specs.Chunk.{Chunk, IHello, FIHello, RHello, Redirect, CookieChange, IIKeying, RIKeying, Ping, PingReply, Close, CloseAck, Fragment, kind_of, parts_of, Spells}
use Rattle.rtmfp_chunks.specs.Writing.{payload_bytes, PartsFit, chunk_bytes}
use Rattle.rtmfp_chunks.proofs.ReadingLaws.{reading_same}
use Rattle.rtmfp_chunks.proofs.WritingLaws.{parts_bytes-spell}
use Rattle.startup_packets.specs.Packets.{startup_packet}
use Rattle.session_core.specs.Session.{SessionState, head_at}
use Rattle.session_core.specs.declared.stamps.Stamp.{Stamp}
use Rattle.session_core.specs.Stamps.{tick_of, echo_of}
use Rattle.endpoint_model.specs.Keying.{chunks_of, IsAmong, KeyingsAre}
use Rattle.endpoint_model.specs.Sending.{session_packet}

-- each chunk of the packet is this one
pub record Alone (kind : ℕ) (payload : List ℕ) (packet : Whole) : Type 0 where
  pub each : (c : Placed) → IsAmong c (chunks_of packet) → (c.kind ≡ kind) × (c.payload ≡ payload)

one_among : (b : Bool) (c p : Placed) → IsAmong c (cond b (p ∷ []) []) → c ≡ p
one_among true c p (inl e) = e
one_among true c p (inr none) = absurd none
one_among false c p none = absurd none

-- the packet of a head and one chunk
abbrev pub one_whole : PacketHead → List ℕ → ℕ → List ℕ → Whole
one_whole head front kind payload = record { head = head; start = length front; chunks = record { kind = kind; payload = payload } ∷ []; padding = [] }

-- a head and one chunk are read so
pub one_reads : (head : PacketHead) (front : List ℕ) (kind : ℕ) (payload : List ℕ) → HeadSpells head front → kind < 2 ^ 8 → length payload < 2 ^ 16 →
    Reads (one_whole head front kind payload) (front ++ (kind ∷ (to_be_bytes w16 (length payload) ++ payload)))
one_reads head front kind payload spells byte short =
    let chunk : Written = record { kind = kind; payload = payload } in
    let bytes : List ℕ = written_bytes chunk in
    record {
      spells = record {
        front = front;
        head_spelled = spells;
        each = (record { kind = byte; size = short }, tt);
        is_padding = tt;
        joined = sym (append-nil (front ++ (bytes ++ [])) ∙ ap (λ xs. front ++ xs) (append-nil bytes));
      };
      start = omega (arith, length-append front bytes, ap length (append-nil (bytes ++ []) ∙ append-nil bytes));
    }

-- and in no other way
pub one_chunk : (head : PacketHead) (front : List ℕ) (kind : ℕ) (payload : List ℕ) (packet : Whole) → HeadSpells head front → kind < 2 ^ 8 → length payload < 2 ^ 16 →
    PacketReading (front ++ (kind ∷ (to_be_bytes w16 (length payload) ++ payload))) (Ok packet) → Alone kind payload packet
one_chunk head front kind payload packet spells byte short reads =
    let whole : Whole = one_whole head front kind payload in
    let bytes : List ℕ = written_bytes (record { kind = kind; payload = payload }) in
    let same : Ok packet ≡ Ok whole = packet_reading_same (front ++ bytes) (Ok packet) (Ok whole) reads (one_reads head front kind payload spells byte short) in
    let is : packet ≡ whole = cc in
    let placed : Placed = record { kind = kind; at = length front; payload = payload } in
    record {
      each = λ c among.
          (let found : c ≡ placed = one_among (not (is_ignored kind)) c placed (subst (λ (w : Whole). IsAmong c (chunks_of w)) is among) in
          (ap (λ (q : Placed). q.kind) found, ap (λ (q : Placed). q.payload) found));
    }

kind_small : (chunk : Chunk) → kind_of chunk < 2 ^ 8
kind_small (IHello epd tag) = omega arith
kind_small (FIHello epd reply tag) = omega arith
kind_small (RHello tag cookie cert) = omega arith
kind_small (Redirect tag list) = omega arith
kind_small (CookieChange old new) = omega arith
kind_small (IIKeying near cookie cert part sign) = omega arith
kind_small (RIKeying near part sign) = omega arith
kind_small (Ping bytes) = omega arith
kind_small (PingReply bytes) = omega arith
kind_small Close = omega arith
kind_small CloseAck = omega arith
kind_small (Fragment more id number bytes) = omega arith

pub startup_head : PacketHead
startup_head = record { critical = false; reverse = false; stamp = None; echo = None; mode = StartupMode }

startup_spells : HeadSpells startup_head (0x03 ∷ [])
unfolding startup_head
startup_spells = head_bytes-spells startup_head tt tt

-- a startup packet is read so
pub startup_reads : (chunk : Chunk) → length (payload_bytes chunk) < 2 ^ 16 → PacketReading (startup_packet chunk) (Ok (one_whole startup_head (0x03 ∷ []) (kind_of chunk) (payload_bytes chunk)))
startup_reads chunk short = one_reads startup_head (0x03 ∷ []) (kind_of chunk) (payload_bytes chunk) startup_spells (kind_small chunk) short

pub startup_alone : (chunk : Chunk) (packet : Whole) → length (payload_bytes chunk) < 2 ^ 16 → PacketReading (startup_packet chunk) (Ok packet) → Alone (kind_of chunk) (payload_bytes chunk) packet
startup_alone chunk packet short reads = one_chunk startup_head (0x03 ∷ []) (kind_of chunk) (payload_bytes chunk) packet startup_spells (kind_small chunk) short reads

tick_fits : (moment : ℕ) → tick_of moment < 2 ^ 16
tick_fits moment = omega arith

echo_fits : (stamp : Option Stamp) (moment : ℕ) → IsStamp (echo_of stamp moment)
echo_fits None moment = tt
echo_fits (Some s) moment = if_fits (nat_lt (moment - s.at) 128000) ((s.value + (moment - s.at) / 4))
  where
    if_fits : (b : Bool) (value : ℕ) → IsStamp (if b then Some (value % 65536) else None)
    if_fits true value = omega arith
    if_fits false value = tt

-- a packet of a session is read so
pub session_reads : (session : SessionState) (moment : ℕ) (chunk : Chunk) → length (payload_bytes chunk) < 2 ^ 16 →
    PacketReading (session_packet session moment (chunk_bytes chunk)) (Ok (one_whole (head_at session moment) (head_bytes (head_at session moment)) (kind_of chunk) (payload_bytes chunk)))
session_reads session moment chunk short =
    one_reads (head_at session moment) (head_bytes (head_at session moment)) (kind_of chunk) (payload_bytes chunk)
    (head_bytes-spells (head_at session moment) (tick_fits moment) (echo_fits session.stamp moment)) (kind_small chunk) short

-- ---- a body of chunks that are no keyings

-- a chunk that has a spelling, and is no keying
pub record IsPlain (chunk : Written) : Type 0 where
  pub kind : chunk.kind < 2 ^ 8
  pub size : length chunk.payload < 2 ^ 16
  pub no_initiator : chunk.kind ≢ 0x38
  pub no_responder : chunk.kind ≢ 0x78

-- The body is such chunks, one after another.
pub record IsModest (body : List ℕ) : Type 0 where
  pub chunks : List Written
  pub is : body ≡ flat_map written_bytes chunks
  pub each : AllByRecursion IsPlain chunks

-- nothing, one chunk, and two bodies one after another
pub none_is_modest : IsModest []
none_is_modest = record { chunks = []; is = refl; each = tt }

pub one_is_modest : (chunk : Chunk) → length (payload_bytes chunk) < 2 ^ 16 → kind_of chunk ≢ 0x38 → kind_of chunk ≢ 0x78 → IsModest (chunk_bytes chunk)
one_is_modest chunk short p q = record {
  chunks = record { kind = kind_of chunk; payload = payload_bytes chunk } ∷ [];
  is = sym (append-nil (chunk_bytes chunk));
  each = (record { kind = kind_small chunk; size = short; no_initiator = p; no_responder = q }, tt);
}

all_joined : (xs ys : List Written) → AllByRecursion IsPlain xs → AllByRecursion IsPlain ys → AllByRecursion IsPlain (xs ++ ys)
all_joined [] ys p q = q
all_joined (x ∷ xs) ys p q = (p.0, all_joined xs ys p.1 q)

bytes_joined : (xs ys : List Written) → flat_map written_bytes (xs ++ ys) ≡ flat_map written_bytes xs ++ flat_map written_bytes ys
bytes_joined [] ys = refl
bytes_joined (x ∷ xs) ys = ap (λ b. written_bytes x ++ b) (bytes_joined xs ys) ∙ sym (append_assoc (written_bytes x) (flat_map written_bytes xs) (flat_map written_bytes ys))

pub joined_is_modest : (a b : List ℕ) → IsModest a → IsModest b → IsModest (a ++ b)
joined_is_modest a b p q = record {
  chunks = p.chunks ++ q.chunks;
  is = ap (λ x. x ++ b) p.is ∙ ap (λ x. flat_map written_bytes p.chunks ++ x) q.is ∙ sym (bytes_joined p.chunks q.chunks);
  each = all_joined p.chunks q.chunks p.each q.each;
}

-- the packet of a head and such chunks
abbrev pub whole_of : PacketHead → List ℕ → List Written → Whole
whole_of head front chunks = record { head = head; start = length front; chunks = chunks; padding = [] }

are_chunks : (chunks : List Written) → AllByRecursion IsPlain chunks → AllByRecursion IsChunk chunks
are_chunks [] each = tt
are_chunks (c ∷ cs) each = (record { kind = each.0.kind; size = each.0.size }, are_chunks cs each.1)

-- A packet of a session with such a body is read so.
pub body_reads : (session : SessionState) (moment : ℕ) (body : List ℕ) (modest : IsModest body) →
    PacketReading (session_packet session moment body) (Ok (whole_of (head_at session moment) (head_bytes (head_at session moment)) modest.chunks))
body_reads session moment body modest =
    let front : List ℕ = head_bytes (head_at session moment) in
    let bytes : List ℕ = flat_map written_bytes modest.chunks in
    record {
      spells = record {
        front = front;
        head_spelled = head_bytes-spells (head_at session moment) (tick_fits moment) (echo_fits session.stamp moment);
        each = are_chunks modest.chunks modest.each;
        is_padding = tt;
        joined = ap (λ b. front ++ b) modest.is ∙ sym (append-nil (front ++ bytes));
      };
      start = omega (arith, length-append front body, ap length modest.is, ap length (append-nil bytes));
    }

abbrev pub IsNoKeying : ℕ → Type 0
IsNoKeying kind = (kind ≢ 0x38) × (kind ≢ 0x78)

front_plain : (x : Written) (at : ℕ) (c : Placed) (rest : List Placed) → IsPlain x → (IsAmong c rest → IsNoKeying c.kind) → (b : Bool) → IsAmong c (cond b (record { kind = x.kind; at = at; payload = x.payload } ∷ rest) rest) →
    IsNoKeying c.kind
front_plain x at c rest plain later true (inl is) = let same : c.kind ≡ x.kind = ap (λ (p : Placed). p.kind) is in (λ e. plain.no_initiator (sym same ∙ e), λ e. plain.no_responder (sym same ∙ e))
front_plain x at c rest plain later true (inr among) = later among
front_plain x at c rest plain later false among = later among

plain_among : (chunks : List Written) (at : ℕ) (c : Placed) → AllByRecursion IsPlain chunks → IsAmong c (visible (all_placed_from at chunks)) → IsNoKeying c.kind
plain_among [] at c each among = absurd among
plain_among (x ∷ xs) at c each among =
    let next : ℕ = at + (3 + length x.payload) in
    front_plain x at c (visible (all_placed_from next xs)) each.0 (λ later. plain_among xs next c each.1 later) (not (is_ignored x.kind)) among

-- each chunk of it is no keying
pub body_plain : (session : SessionState) (moment : ℕ) (body : List ℕ) (packet : Whole) → IsModest body → PacketReading (session_packet session moment body) (Ok packet) → (c : Placed) → IsAmong c (chunks_of packet) →
    IsNoKeying c.kind
body_plain session moment body packet modest reads c among =
    let front : List ℕ = head_bytes (head_at session moment) in
    let whole : Whole = whole_of (head_at session moment) front modest.chunks in
    let same : Ok packet ≡ Ok whole = packet_reading_same (session_packet session moment body) (Ok packet) (Ok whole) reads (body_reads session moment body modest) in
    let is : packet ≡ whole = cc in
    plain_among modest.chunks (length front) c modest.each (subst (λ (w : Whole). IsAmong c (chunks_of w)) is among)

-- ---- the keyings of such a packet

module _ (OfInitiator : (near : ℕ) → (cookie cert part sign : List ℕ) → Type 0) (OfResponder : (near : ℕ) → (part sign : List ℕ) → Type 0) (packet : Whole) where
  pub no_keyings : (kind : ℕ) (payload : List ℕ) → Alone kind payload packet → kind ≢ 0x38 → kind ≢ 0x78 → KeyingsAre OfInitiator OfResponder packet
  no_keyings kind payload alone p q = record {
    initiators = λ c near cookie cert part sign among spells. absurd (p (sym ((alone.each c among).0) ∙ spells.0));
    responders = λ c near part sign among spells. absurd (q (sym ((alone.each c among).0) ∙ spells.0));
  }

  pub no_keyings_among : ((c : Placed) → IsAmong c (chunks_of packet) → IsNoKeying c.kind) → KeyingsAre OfInitiator OfResponder packet
  no_keyings_among plain = record {
    initiators = λ c near cookie cert part sign among spells. absurd ((plain c among).0 (spells.0));
    responders = λ c near part sign among spells. absurd ((plain c among).1 (spells.0));
  }

  -- what is asked of a chunk
  abbrev OfThe : Chunk → Type 0
  OfThe (IHello epd tag) = ⊥
  OfThe (FIHello epd reply tag) = ⊥
  OfThe (RHello tag cookie cert) = ⊥
  OfThe (Redirect tag list) = ⊥
  OfThe (CookieChange old new) = ⊥
  OfThe (IIKeying near cookie cert part sign) = OfInitiator near cookie cert part sign
  OfThe (RIKeying near part sign) = OfResponder near part sign
  OfThe (Ping bytes) = ⊥
  OfThe (PingReply bytes) = ⊥
  OfThe Close = ⊥
  OfThe CloseAck = ⊥
  OfThe (Fragment more id number bytes) = ⊥

  -- another chunk that is spelled is this one
  this_one : (chunk other : Chunk) (c : Placed) → Alone (kind_of chunk) (payload_bytes chunk) packet → PartsFit (parts_of chunk) → IsAmong c (chunks_of packet) →
      Spells other c.kind c.payload → OfThe chunk → OfThe other
  this_one chunk other c alone fit among spells of =
      let at = alone.each c among in
      let here : Spells other (kind_of chunk) (payload_bytes chunk) =
      subst (λ (k : ℕ). Spells other k (payload_bytes chunk)) at.0 (subst (λ (b : List ℕ). Spells other c.kind b) at.1 spells) in
      let same : Ok chunk ≡ Ok other = reading_same (kind_of chunk) (payload_bytes chunk) (Ok chunk) (Ok other) (refl, parts_bytes-spell (parts_of chunk) fit) here in
      let is : chunk ≡ other = cc in
      subst OfThe is of

  pub these_keyings : (chunk : Chunk) → Alone (kind_of chunk) (payload_bytes chunk) packet → PartsFit (parts_of chunk) → OfThe chunk → KeyingsAre OfInitiator OfResponder packet
  these_keyings chunk alone fit of = record {
    initiators = λ c near cookie cert part sign among spells. this_one chunk (IIKeying near cookie cert part sign) c alone fit among spells of;
    responders = λ c near part sign among spells. this_one chunk (RIKeying near part sign) c alone fit among spells of;
  }
