-- Values for the rows.
use Rattle.std.specs.Prelude.{ℕ, ◌∷◌, [], List, Bool, true, false, Result}
use Rattle.rtmfp_fragments.specs.declared.outcome.Gathered.{Gathered}
use Rattle.rtmfp_fragments.specs.declared.outcome.PieceRefusal.{PieceRefusal}
use Rattle.rtmfp_fragments.specs.Pieces.{PieceParts, piece}
use Rattle.rtmfp_fragments.specs.Held.{PacketParts, one_piece}
use Rattle.rtmfp_fragments.specs.Answers.{taken}

-- a piece of one byte
abbrev pub byte : ℕ → Bool → ℕ → PieceParts
byte number more b = piece number more (b ∷ [])

-- the first piece of a packet, taken at moment 0, and nothing else
abbrev pub begun : ℕ → PacketParts
begun id = one_piece id 0 (byte 0 true 170)

-- with the last of three pieces
abbrev pub first_and_last : PacketParts
first_and_last = record { id = 1; at = 0; pieces = byte 0 true 170 ∷ byte 2 false 204 ∷ [] }

abbrev pub four : List PacketParts
four = begun 2 ∷ begun 3 ∷ begun 4 ∷ begun 5 ∷ []

-- three that were begun at moment 1, and one more at moment 0
abbrev pub three : List PacketParts
three = one_piece 2 1 (byte 0 true 170) ∷ one_piece 3 1 (byte 0 true 170) ∷
    one_piece 4 1 (byte 0 true 170) ∷ []

abbrev pub three_and_an_old_one : List PacketParts
three_and_an_old_one = begun 5 ∷ three

-- a packet that has these bytes in a piece after its first one
abbrev pub with_bytes : List ℕ → PacketParts
with_bytes bytes = record { id = 1; at = 0; pieces = byte 0 true 170 ∷ piece 1 true bytes ∷ [] }

-- ---- calls one after another

pub record Call : Type 0 where
  pub moment : ℕ
  pub id : ℕ
  pub x : PieceParts

-- at a moment a piece of one byte comes
abbrev pub comes : ℕ → ℕ → ℕ → Bool → ℕ → Call
comes moment id number more b = record { moment = moment; id = id; x = byte number more b }

-- what these calls get, the first of which stands first
abbrev pub answers : List PacketParts → List Call → List (Result Gathered PieceRefusal)
answers held [] = []
answers held (c ∷ later) = (taken held c.id c.x c.moment).1 ∷
    answers (taken held c.id c.x c.moment).0 later

-- what is held after them
abbrev pub held_then : List PacketParts → List Call → List PacketParts
held_then held [] = held
held_then held (c ∷ later) = held_then (taken held c.id c.x c.moment).0 later

-- a packet of three pieces, with what conflicts with them between; four others, and a fifth
abbrev pub worked : List Call
worked = comes 0 1 0 true 170 ∷ comes 0 1 0 true 170 ∷ comes 0 1 0 true 187 ∷
    comes 0 1 2 false 204 ∷ comes 0 1 3 true 221 ∷ comes 0 1 64 true 221 ∷
    comes 0 1 1 true 187 ∷
    comes 0 2 0 true 170 ∷ comes 0 3 0 true 170 ∷ comes 0 4 0 true 170 ∷
    comes 0 5 0 true 170 ∷ comes 0 6 0 true 170 ∷
    comes 5000 6 0 true 170 ∷ []
