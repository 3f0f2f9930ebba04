-- The pieces that are held, and what a piece is to them.
use Rattle.std.specs.Prelude.{◌≡◌, ℕ, zero, suc, ◌+◌, ◌<◌, ◌≤◌, ◌==◌, ◌&&◌, ◌||◌, Bool, true, false, not, nat_lt, if◌then◌else◌, List, [], ◌∷◌, ◌++◌, length, filter, sum_by, All, AllPairs, Option, Some, None}
use Rattle.std.specs.List.{list_any}
use Rattle.std.specs.Option.{option_map}
use Rattle.std.specs.Str.{bytes_eq}
use Rattle.rtmfp_fragments.specs.Pieces.{PieceParts}

-- The pieces of a packet that isn't whole, in the order in which they were taken. The first one was
-- taken at this moment.
pub record PacketParts : Type 0 where
  pub id : ℕ
  pub at : ℕ
  pub pieces : List PieceParts

-- ---- the pieces of one packet

-- the piece of a number
abbrev pub piece_at : ℕ → List PieceParts → Option PieceParts
piece_at number [] = None
piece_at number (x ∷ later) = if x.number == number then Some x else piece_at number later

abbrev pub same_mark : Bool → Bool → Bool
same_mark true b = b
same_mark false b = not b

abbrev pub is_same : PieceParts → PieceParts → Bool
is_same x held = (held.number == x.number) && same_mark held.more x.more
    && bytes_eq held.bytes x.bytes

-- this very piece is held
abbrev pub is_again : PieceParts → List PieceParts → Bool
is_again x pieces = list_any (is_same x) pieces

-- the number is held otherwise, or one of the two is a last piece and the other is above it
abbrev pub are_at_odds : PieceParts → PieceParts → Bool
are_at_odds x held = ((held.number == x.number) && not (is_same x held))
    || (not held.more && nat_lt held.number x.number)
    || (not x.more && nat_lt x.number held.number)

abbrev pub conflicts : PieceParts → List PieceParts → Bool
conflicts x pieces = list_any (are_at_odds x) pieces

abbrev pub held_bytes : List PieceParts → ℕ
held_bytes pieces = sum_by (λ x. length x.bytes) pieces

-- the bytes of a piece and what comes after it
abbrev pub before : Option PieceParts → Option (List ℕ) → Option (List ℕ)
before None later = None
before (Some x) later = if x.more then option_map (λ bytes. x.bytes ++ bytes) later
    else Some x.bytes

-- The bytes of the pieces with the numbers from this one to a last one, in the order of their
-- numbers, where all of these are there. At most so many are looked for.
abbrev pub joined : ℕ → ℕ → List PieceParts → Option (List ℕ)
joined zero number pieces = None
joined (suc most) number pieces = before (piece_at number pieces) (joined most (number + 1) pieces)

-- the packet, where all its pieces are there
unfoldable pub whole : List PieceParts → Option (List ℕ)
whole pieces = joined 64 0 pieces

-- ---- packets

abbrev pub has_id : ℕ → PacketParts → Bool
has_id id p = p.id == id

-- those whose first piece was taken less than 5,000 ms before
abbrev pub is_kept : ℕ → PacketParts → Bool
is_kept moment p = nat_lt moment (p.at + 5000)

abbrev pub kept_at : ℕ → List PacketParts → List PacketParts
kept_at moment held = filter (is_kept moment) held

-- the packet of an id, where its time isn't over
abbrev pub is_held : ℕ → ℕ → PacketParts → Bool
is_held id moment p = is_kept moment p && has_id id p

abbrev pub is_known : ℕ → List PacketParts → Bool
is_known id held = list_any (has_id id) held

abbrev pub pieces_under : ℕ → List PacketParts → List PieceParts
pieces_under id [] = []
pieces_under id (p ∷ later) = if p.id == id then p.pieces else pieces_under id later

abbrev pub without : ℕ → List PacketParts → List PacketParts
without id held = filter (λ p. not (has_id id p)) held

abbrev pub one_piece : ℕ → ℕ → PieceParts → PacketParts
one_piece id moment x = record { id = id; at = moment; pieces = x ∷ [] }

abbrev pub with_one_more : PacketParts → PieceParts → PacketParts
with_one_more p x = record { id = p.id; at = p.at; pieces = p.pieces ++ x ∷ [] }

-- one piece more, in its packet or in a new one
abbrev pub with_piece : ℕ → ℕ → PieceParts → List PacketParts → List PacketParts
with_piece id moment x [] = one_piece id moment x ∷ []
with_piece id moment x (p ∷ later) = if p.id == id then with_one_more p x ∷ later
    else p ∷ with_piece id moment x later

-- ---- the limits of what is held, whatever comes

-- The pieces of one packet: no number stands twice, nothing is above a last piece, no number is above
-- 63, they have at most 4,096 bytes, and something is missing.
pub record AreHeld (pieces : List PieceParts) : Type 0 where
  pub once : AllPairs (λ x y. x.number ≡ y.number → ⊥) pieces
  pub agree : AllPairs (λ x y. are_at_odds y x ≡ false) pieces
  pub numbers : All (λ x. x.number < 64) pieces
  pub bytes : held_bytes pieces ≤ 4096
  pub open_yet : whole pieces ≡ None

-- at most 4 packets, no id twice
pub record IsWithinLimits (held : List PacketParts) : Type 0 where
  pub few : length held ≤ 4
  pub once : AllPairs (λ p q. p.id ≡ q.id → ⊥) held
  pub packets : All (λ p. AreHeld p.pieces) held
