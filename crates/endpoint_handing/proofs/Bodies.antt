-- What a datagram of a session has of flows is what the chunks of its body have.
use Rattle.std.specs.Prelude.{◌==◌, if◌then◌else◌}
use Rattle.std.proofs.Common.{◌≡◌, ℕ, ◌+◌, ◌==◌, List, [], ◌∷◌, ◌++◌, length, drop}
use Rattle.std.proofs.Common.{cond, not, Bool, true, false, Option, Some, None, Result, Ok, Err}
use Rattle.std.proofs.Common.{refl, sym, ap, ◌∙◌, append-nil, if◌then◌else◌}
use Rattle.std.proofs.lemmas.List.{drop_at}
use Rattle.std.specs.Int.{w32, to_be_bytes}
use Rattle.crypto_profile.specs.Keys.{Keys, keys_of}
use Rattle.crypto_profile.specs.Opening.{plain_of}
use Rattle.crypto_profile.proofs.Opened.{sealed_opens}
use Rattle.packet_scramble.specs.Datagram.{datagram, scrambled}
use Rattle.rtmfp_packet.specs.declared.head.PacketHead.{PacketHead}
use Rattle.rtmfp_packet.specs.declared.head.PacketFault.{PacketFault}
use Rattle.rtmfp_packet.specs.Head.{head_bytes}
use Rattle.rtmfp_packet.specs.Spelling.{Chunk as Written, IsChunk, chunk_bytes as written_bytes}
use Rattle.rtmfp_packet.specs.Walk.{Placed, Body, body_of, is_ignored, all_placed_from, visible}
use Rattle.rtmfp_packet.specs.Whole.{Whole}
use Rattle.rtmfp_packet.proofs.Bodies.{body_of-spelled}
use Rattle.rtmfp_data_chunks.specs.declared.user_data.Numbers.{Numbers}
use Rattle.rtmfp_data_chunks.specs.Spelling.{before_next}
use Rattle.rtmfp_data_chunks.specs.Reader.{data_reading}
use Rattle.session_core.specs.declared.stage.Role.{Role}
use Rattle.session_core.specs.declared.stage.Role.TheVariants.{Initiator, Responder}
use Rattle.session_core.specs.Session.{SessionState, IsKeyed, mode_of, context_of}
use Rattle.session_core.specs.Stamps.{tick_of, echo_of}
use Rattle.session_core.specs.Sealed.{number_bytes, sealed_part}
use Rattle.endpoint_model.specs.Admission.{packet_in}
use Rattle.endpoint_model.specs.Sending.{session_packet, session_datagram}
use Rattle.flow_history.specs.Deeds.{Piece}
use Rattle.endpoint_laws.specs.Contexts.{generation_of}
use Rattle.endpoint_handing.specs.Told.{sends_in}
use Rattle.rtmfp_chunks.specs.FieldReading.{chunk_reading}
use Rattle.session_deeds.specs.Pieces.{pieces_at, pieces_read, parts_read, pieces_behind, pieces_of}
use Rattle.endpoint_handing.proofs.Pieces.{pieces_whole, keys_in, pieces_in}
use Rattle.endpoint_handing.proofs.Kept.{away, session_of}

-- ---- contexts

-- no key is made of a generation
keys_away : (secret : List ℕ) (session : SessionState) → keys_in secret (away session) ≡ keys_of secret (context_of session true)
keys_away secret session = by session.role
  where
    by : (r : Role) → keys_in secret (sends_in r session.own session.joined) ≡ keys_of secret (context_of (record session { role = r }) true)
    by Initiator = refl
    by Responder = refl

pub session_away : (session : SessionState) → session_of (context_of session true) ≡ Some (away session)
session_away session = by session.role
  where
    by : (r : Role) → session_of (context_of (record session { role = r }) true) ≡ Some (sends_in r session.own session.joined)
    by Initiator = refl
    by Responder = refl

pub session_generation : (session : SessionState) (outward : Bool) → generation_of (context_of session outward) ≡ session.generation
session_generation session outward = by session.role
  where
    by : (r : Role) → generation_of (context_of (record session { role = r }) outward) ≡ session.generation
    by Initiator = refl
    by Responder = refl

-- ---- where a chunk stands tells nothing

one_placed : (before : Option Numbers) (c : Written) (at other : ℕ) (xs ys : List Placed) → ((b : Option Numbers) → pieces_behind b xs ≡ pieces_behind b ys) → (shown : Bool) →
    pieces_behind before (cond shown (record { kind = c.kind; at = at; payload = c.payload } ∷ xs) xs) ≡ pieces_behind before (cond shown (record { kind = c.kind; at = other; payload = c.payload } ∷ ys) ys)
one_placed before c at other xs ys same true = ap (λ (p : List Piece). pieces_at before c.kind c.payload ++ p) (same (before_next (data_reading before c.kind c.payload)))
one_placed before c at other xs ys same false = same before

placed_pieces : (before : Option Numbers) (at other : ℕ) (chunks : List Written) → pieces_behind before (visible (all_placed_from at chunks)) ≡ pieces_behind before (visible (all_placed_from other chunks))
placed_pieces before at other [] = refl
placed_pieces before at other (c ∷ cs) =
    let next : ℕ = at + (3 + length c.payload) in
    let beside : ℕ = other + (3 + length c.payload) in
    one_placed before c at other (visible (all_placed_from next cs)) (visible (all_placed_from beside cs)) (λ b. placed_pieces b next beside cs) (not (is_ignored c.kind))

-- the pieces of a body, which is the bytes of chunks
abbrev pub body_pieces : List ℕ → List Piece
body_pieces body = pieces_of (visible (all_placed_from 0 (body_of body).chunks))

-- ---- a packet of a session

-- a packet with some head, whose chunks are those of this body
abbrev HasBody : List ℕ → Result Whole PacketFault → Type 0
HasBody body read = (head : PacketHead) × (start : ℕ) × (read ≡ Ok (record { head = head; start = start; chunks = (body_of body).chunks; padding = (body_of body).padding }))

head_read : (role : Role) (tick : ℕ) (echo : Option ℕ) (body : List ℕ) →
    HasBody body (packet_in (head_bytes (record { critical = false; reverse = false; stamp = Some tick; echo = echo; mode = mode_of role }) ++ body))
unfolding packet_in
head_read Initiator tick None body = (_, _, refl)
head_read Initiator tick (Some echo) body = (_, _, refl)
head_read Responder tick None body = (_, _, refl)
head_read Responder tick (Some echo) body = (_, _, refl)

pub packet_pieces : (session : SessionState) (moment : ℕ) (body : List ℕ) → pieces_whole (packet_in (session_packet session moment body)) ≡ body_pieces body
packet_pieces session moment body =
    let found = head_read session.role (tick_of moment) (echo_of session.stamp moment) body in
    ap pieces_whole found.2 ∙ placed_pieces None found.1 0 (body_of body).chunks

-- ---- its datagram

behind : (sid : ℕ) (part : List ℕ) → drop 4 (datagram sid part) ≡ part
behind sid part = drop_at (to_be_bytes w32 (scrambled sid part)) part 4 refl

pub datagram_pieces : (secret : List ℕ) (session : SessionState) → IsKeyed secret session → (moment : ℕ) (body : List ℕ) →
    pieces_in secret (away session) (session_datagram session moment body) ≡ body_pieces body
datagram_pieces secret session keyed moment body =
    let plain : List ℕ = session_packet session moment body in
    let part : List ℕ = sealed_part session plain in
    ap (λ (k : Keys). pieces_whole (packet_in (plain_of k (drop 4 (datagram session.joined.far part))))) (keys_away secret session ∙ sym keyed.away)
    ∙ ap (λ (b : List ℕ). pieces_whole (packet_in (plain_of session.outward b))) (behind session.joined.far part)
    ∙ ap (λ (b : List ℕ). pieces_whole (packet_in b)) (sealed_opens session.outward session.joined.far (number_bytes (session.sealed + 1)) plain refl).1
    ∙ packet_pieces session moment body

-- ---- a body of one chunk that isn't of flows

-- no chunk of flows has the type, and no part of a packet
pub record IsBeside (kind : ℕ) : Type 0 where
  pub data_kind : (kind == 0x10) ≡ false
  pub next_kind : (kind == 0x11) ≡ false
  pub bitmap : (kind == 0x50) ≡ false
  pub ranges : (kind == 0x51) ≡ false
  pub probe : (kind == 0x18) ≡ false
  pub exception : (kind == 0x5e) ≡ false
  pub part : (kind == 0x7f) ≡ false

beside_read : (a b c d f g : Bool) (x y z w u v r : _) → a ≡ false → b ≡ false → c ≡ false → d ≡ false → f ≡ false → g ≡ false →
    pieces_read (if a then x else if b then y else if c then z else if d then w else if f then u else if g then v else Err r) ≡ []
beside_read false false false false false false x y z w u v r p q s t o n = refl
beside_read true b c d f g x y z w u v r p q s t o n = absurd cc
beside_read false true c d f g x y z w u v r p q s t o n = absurd cc
beside_read false false true d f g x y z w u v r p q s t o n = absurd cc
beside_read false false false true f g x y z w u v r p q s t o n = absurd cc
beside_read false false false false true g x y z w u v r p q s t o n = absurd cc
beside_read false false false false false true x y z w u v r p q s t o n = absurd cc

beside_all : (before : Option Numbers) (kind : ℕ) (payload : List ℕ) → IsBeside kind → pieces_read (data_reading before kind payload) ≡ []
unfolding data_reading
beside_all before kind payload is = beside_read (kind == 0x10) (kind == 0x11) (kind == 0x50) (kind == 0x51) (kind == 0x18) (kind == 0x5e) _ _ _ _ _ _ _ is.data_kind is.next_kind is.bitmap is.ranges is.probe is.exception

pub beside_pieces : (before : Option Numbers) (kind : ℕ) (payload : List ℕ) → IsBeside kind → pieces_at before kind payload ≡ []
beside_pieces before kind payload is =
    ap (λ (b : Bool). if b then parts_read (chunk_reading kind payload) else pieces_read (data_reading before kind payload)) is.part ∙ beside_all before kind payload is

one_piece : (b : Bool) (c : Placed) → IsBeside c.kind → pieces_of (cond b (c ∷ []) []) ≡ []
one_piece true c is = append-nil (pieces_at None c.kind c.payload) ∙ beside_pieces None c.kind c.payload is
one_piece false c is = refl

-- the pieces of one chunk alone
pub one_chunk : (chunk : Written) → IsChunk chunk → body_pieces (written_bytes chunk) ≡ pieces_of (cond (not (is_ignored chunk.kind)) (record { kind = chunk.kind; at = 0; payload = chunk.payload } ∷ []) [])
one_chunk chunk is =
    let spelled : body_of (written_bytes chunk) ≡ record { chunks = chunk ∷ []; padding = [] } =
    ap body_of (sym (append-nil (written_bytes chunk)) ∙ sym (append-nil (written_bytes chunk ++ []))) ∙ body_of-spelled (chunk ∷ []) [] (is, tt) tt in
    ap (λ (b : Body). pieces_of (visible (all_placed_from 0 b.chunks))) spelled

pub one_beside : (chunk : Written) → IsChunk chunk → IsBeside chunk.kind → body_pieces (written_bytes chunk) ≡ []
one_beside chunk is beside =
    one_chunk chunk is ∙ one_piece (not (is_ignored chunk.kind)) (record { kind = chunk.kind; at = 0; payload = chunk.payload }) beside
