-- Datagrams that go out.
use Rattle.std.specs.Prelude.{ℕ, ◌+◌, ◌-◌, ◌^◌, ◌==◌, ◌&&◌, nat_le, nat_lt, max, min, Bool, true, if◌then◌else◌, List, [], ◌∷◌, ◌++◌, length, map, take, Option, Some, None}
use Rattle.std.specs.Int.{w64, to_be_bytes}
use Rattle.rtmfp_forms.specs.Address.{AddressParts}
use Rattle.rtmfp_packet.specs.Head.{head_bytes}
use Rattle.rtmfp_chunks.specs.Chunk.{Fragment}
use Rattle.rtmfp_chunks.specs.Writing.{chunk_bytes}
use Rattle.rtmfp_fragments.specs.Pieces.{PieceParts, pieces_of}
use Rattle.crypto_profile.specs.declared.keys.Context.TheVariants.{Startup}
use Rattle.crypto_profile.specs.Keys.{Keys, startup_keys_of}
use Rattle.crypto_profile.specs.Sealing.{sealed}
use Rattle.packet_scramble.specs.Datagram.{datagram}
use Rattle.startup.specs.declared.answer.Answer.{Answer}
use Rattle.startup.specs.State.{SpreadParts}
use Rattle.session_core.specs.Session.{SessionState, context_of, head_at}
use Rattle.session_core.specs.Sealed.{sealed_part, after_seal}
use Rattle.endpoint_model.specs.declared.entry.Entry.TheVariants.{Out}
use Rattle.endpoint_model.specs.declared.row.Row.{Row}
use Rattle.std.specs.FinMap.{get}
use Rattle.endpoint_model.specs.State.{State, Did, longest_packet, nothing, then_do, with_row, with_sealed, with_session}

-- a counter that stands at its end counts nothing more, and nothing more is sealed then
abbrev pub last_count : ℕ
last_count = 2 ^ 64 - 1

-- ---- in the startup context of a generation

-- the number of a startup packet: the first 8 bytes of the own fingerprint, and its count
abbrev pub startup_number : List ℕ → ℕ → List ℕ
startup_number own count = take 8 own ++ to_be_bytes w64 count

-- the datagram of a startup packet that goes out next under these keys
abbrev pub startup_datagram : State → Keys → ℕ → List ℕ → List ℕ
startup_datagram s keys sid plain = datagram sid
    (sealed keys sid (startup_number s.startup.ledger.own (s.sealed + 1)) plain)

-- no count of a startup packet is left
abbrev pub is_spent : State → Bool
is_spent s = s.sealed == last_count

abbrev pub sent_startup : State → ℕ → Keys → AddressParts → ℕ → List ℕ → Did
sent_startup s generation keys to sid plain =
    if is_spent s then nothing s
    else record {
      state = with_sealed s (s.sealed + 1);
      entries = Out to (startup_datagram s keys sid plain) (Startup generation) ∷ [];
    }

-- An answer tells the generation and the keys that it is sealed with.
abbrev pub sent_answer : State → Answer → Did
sent_answer s answer =
    sent_startup s answer.generation answer.keys answer.to answer.sid answer.plain

abbrev pub sent_if : State → Option Answer → Did
sent_if s None = nothing s
sent_if s (Some answer) = sent_answer s answer

-- one packet to several addresses, in their order, under session ID 0 in the current generation
abbrev pub sent_each : State → List ℕ → List AddressParts → Did
sent_each s plain [] = nothing s
sent_each s plain (to ∷ rest) =
    then_do (sent_startup s s.group.generation (startup_keys_of s.group) to 0 plain)
    (λ t. sent_each t plain rest)

abbrev pub sent_spread : State → SpreadParts → Did
sent_spread s spread = sent_each s spread.plain spread.to

-- ---- in a session

-- the head of a packet that goes out in a session
abbrev pub packet_head : SessionState → ℕ → List ℕ
packet_head session moment = head_bytes (head_at session moment)

-- the packet of a body, which is the bytes of its chunks
abbrev pub session_packet : SessionState → ℕ → List ℕ → List ℕ
session_packet session moment body = packet_head session moment ++ body

abbrev pub session_datagram : SessionState → ℕ → List ℕ → List ℕ
session_datagram session moment body = datagram session.joined.far
    (sealed_part session (session_packet session moment body))

-- a packet with this body
abbrev pub sent_whole : State → ℕ → AddressParts → List ℕ → Option Row → Did
sent_whole s near to body None = nothing s
sent_whole s near to body (Some row) =
    if row.session.sealed == last_count then nothing s
    else record {
      state = with_session s near row (after_seal row.session);
      entries = Out to (session_datagram row.session s.moment body) (context_of row.session true)
          ∷ [];
    }

-- one for each of these bodies, in their order
abbrev pub sent_bodies : State → ℕ → AddressParts → List (List ℕ) → Did
sent_bodies s near to [] = nothing s
sent_bodies s near to (body ∷ rest) =
    then_do (sent_whole s near to body (get s.sessions near))
    (λ t. sent_bodies t near to rest)

-- ---- in pieces

-- Packets of up to this many plain bytes go out whole: those of 96 bytes always do.
abbrev pub limit_of : State → ℕ
limit_of s = min longest_packet (max 96 s.limit)

-- the pieces of a longer one: 32 bytes of each packet are left to what stands before a piece
abbrev pub pieces_for : State → List ℕ → List PieceParts
pieces_for s plain = pieces_of plain (limit_of s - 32)

-- the body of a piece's packet: a fragment chunk, with the ID of the packet
abbrev pub piece_body : ℕ → PieceParts → List ℕ
piece_body id x = chunk_bytes (Fragment x.more id x.number x.bytes)

-- an ID for a packet, and a count for each of so many pieces, are left
abbrev pub has_counts : Row → ℕ → Bool
has_counts row pieces =
    nat_lt row.packets last_count && nat_le (row.session.sealed + pieces) last_count

-- The packet takes the next ID of its session, and each piece goes out in a packet of its own. Where
-- not all of them can, none does.
abbrev pub sent_in_pieces : State → ℕ → AddressParts → Row → List PieceParts → Did
sent_in_pieces s near to row pieces =
    if has_counts row (length pieces)
    then then_do (nothing (with_row s near (record row { packets = row.packets + 1 })))
    (λ t. sent_bodies t near to (map (piece_body (row.packets + 1)) pieces))
    else nothing s

-- ---- whole or in pieces

-- the packet is too long to go out whole
abbrev pub is_long : State → Row → List ℕ → Bool
is_long s row body = nat_lt (limit_of s) (length (session_packet row.session s.moment body))

abbrev pub sent_by : State → ℕ → AddressParts → List ℕ → Option Row → Did
sent_by s near to body None = nothing s
sent_by s near to body (Some row) =
    if is_long s row body
    then sent_in_pieces s near to row
    (pieces_for s (session_packet row.session s.moment body))
    else sent_whole s near to body (Some row)

-- a body in the session with this near id
abbrev pub sent_in_session : State → ℕ → AddressParts → List ℕ → Did
sent_in_session s near to body = sent_by s near to body (get s.sessions near)
