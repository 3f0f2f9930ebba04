-- The payloads of a packet are bytes where the packet is.
use Rattle.std.proofs.Common.{ℕ, zero, suc, ◌+◌, ◌<◌, Bool, true, false, not, List, [], ◌∷◌, ◌++◌, length, get_or, subst, append_assoc, ◌∙◌, if◌then◌else◌, arith}
use Rattle.std.specs.List.{flat_map}
use Rattle.std.specs.Int.{to_be_bytes, w16}
use Rattle.rtmfp_packet.specs.Spelling.{Chunk, chunk_bytes}
use Rattle.rtmfp_packet.specs.Walk.{Placed, all_placed_from, is_ignored, visible}
use Rattle.rtmfp_packet.specs.Whole.{Whole}
use Rattle.rtmfp_packet.specs.Reading.{Reads}
use Rattle.rtmfp_packet.proofs.Bodies.{AreBytes}
use Rattle.rtmfp_packet.proofs.Readings.{are_bytes, back_are}

abbrev pub IsBytes : List ℕ → Type 0
IsBytes b = (i : ℕ) → get_or b i 0 < 256

front_are : (front back : List ℕ) → AreBytes (front ++ back) → AreBytes front
front_are [] back all = tt
front_are (x ∷ front) back all = (all.0, front_are front back all.1)

-- a member, or what is given past the end
pub is_bytes : (b : List ℕ) → AreBytes b → IsBytes b
is_bytes [] all i = omega arith
is_bytes (x ∷ b) all zero = all.0
is_bytes (x ∷ b) all (suc i) = is_bytes b all.1 i

abbrev pub Payloads : List Placed → Type 0
Payloads [] = Unit {0}
Payloads (chunk ∷ chunks) = AreBytes chunk.payload × Payloads chunks

placed_are : (at : ℕ) (chunks : List Chunk) (padding : List ℕ) → AreBytes (flat_map chunk_bytes chunks ++ padding) → Payloads (all_placed_from at chunks)
placed_are at [] padding all = tt
placed_are at (chunk ∷ chunks) padding all =
    let rest = flat_map chunk_bytes chunks ++ padding in
    let both : AreBytes (chunk_bytes chunk ++ rest) = subst AreBytes (append_assoc (chunk_bytes chunk) (flat_map chunk_bytes chunks) padding) all in
    let here = front_are (chunk_bytes chunk) rest both in (
      back_are (λ x. x < 256) (to_be_bytes w16 (length chunk.payload)) chunk.payload here.1,
      placed_are (at + (3 + length chunk.payload)) chunks padding (back_are (λ x. x < 256) (chunk_bytes chunk) rest both),
    )

kept : (keep : Bool) (chunk : Placed) (rest : List Placed) → AreBytes chunk.payload → Payloads rest → Payloads (if keep then chunk ∷ rest else rest)
kept true chunk rest p ps = (p, ps)
kept false chunk rest p ps = ps

visible_are : (chunks : List Placed) → Payloads chunks → Payloads (visible chunks)
visible_are [] all = tt
visible_are (chunk ∷ chunks) all = kept (not (is_ignored chunk.kind)) chunk (visible chunks) all.0 (visible_are chunks all.1)

-- those of the chunks that are shown
pub payloads_are : (packet : Whole) (b : List ℕ) → IsBytes b → Reads packet b → Payloads (visible (all_placed_from packet.start packet.chunks))
payloads_are packet b small reads =
    let s = reads.spells in
    let all : AreBytes (s.front ++ (flat_map chunk_bytes packet.chunks ++ packet.padding)) = subst AreBytes (s.joined ∙ append_assoc s.front (flat_map chunk_bytes packet.chunks) packet.padding) (are_bytes b small) in
    visible_are (all_placed_from packet.start packet.chunks) (placed_are packet.start packet.chunks packet.padding (back_are (λ x. x < 256) s.front (flat_map chunk_bytes packet.chunks ++ packet.padding) all))
