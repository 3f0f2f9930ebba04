-- The calls of a reassembly in their order, and what is said of all of them.
use Rattle.std.specs.Prelude.{◌≡◌, ℕ, ◌+◌, ◌*◌, ◌<◌, ◌≤◌, length, Bool, true, false, List, [], ◌∷◌, ◌++◌, ◌⊎◌, Some, Result, Ok, Err}
use Rattle.std.specs.Option.{is_none}
use Rattle.std.specs.Result.{is_ok}
use Rattle.rtmfp_fragments.specs.declared.outcome.PieceRefusal.{PieceRefusal}
use Rattle.rtmfp_fragments.specs.declared.outcome.PieceRefusal.TheVariants.{TooMany, Conflict, TooLong, PacketsFull, Memory}
use Rattle.rtmfp_fragments.specs.declared.outcome.Gathered.{Gathered}
use Rattle.rtmfp_fragments.specs.declared.outcome.Gathered.TheVariants.{Again, Kept, Whole}
use Rattle.rtmfp_fragments.specs.Pieces.{PieceParts, pieces_of}
use Rattle.rtmfp_fragments.specs.Held.{PacketParts, piece_at, held_bytes, kept_at, pieces_under, IsWithinLimits}
use Rattle.rtmfp_fragments.specs.Answers.{taken, refusal_at}

-- a call, that found memory or didn't
pub data Happening : Type 0 where
  Took : (id : ℕ) → (x : PieceParts) → (moment : ℕ) → Happening
  Lacked : (id : ℕ) → (x : PieceParts) → (moment : ℕ) → Happening

-- what a call with a piece gets
abbrev pub answer_then : List PacketParts → ℕ → PieceParts → ℕ → Result Gathered PieceRefusal
answer_then held id x moment = (taken held id x moment).1

-- what is held after these, the newest of which stands first
abbrev pub held_by : List Happening → List PacketParts
held_by [] = []
held_by (Took id x moment ∷ before) = (taken (held_by before) id x moment).0
held_by (Lacked id x moment ∷ before) = kept_at moment (held_by before)

-- ---- the limits

-- Whatever came, at most 4 packets of 4,096 bytes are held, and no id or number twice.
abbrev pub StaysWithinLimits : Type 0
StaysWithinLimits = (happened : List Happening) → IsWithinLimits (held_by happened)

-- ---- what is refused

-- Where a piece isn't refused, it is answered what it was; that is so nowhere else.
abbrev pub RefusesNoneThatIsTaken : Type 0
RefusesNoneThatIsTaken = (held : List PacketParts) (id : ℕ) (x : PieceParts) (moment : ℕ)
    → is_none (refusal_at moment id x held) ≡ is_ok (answer_then held id x moment)

-- A refusal is what is answered, and nothing but the forgetting has changed.
abbrev pub AnswersTheRefusal : Type 0
AnswersTheRefusal = (held : List PacketParts) (id : ℕ) (x : PieceParts) (moment : ℕ)
    (refusal : PieceRefusal) → refusal_at moment id x held ≡ Some refusal
    → ◌≡◌ {A = List PacketParts × Result Gathered PieceRefusal}
    (taken held id x moment) (kept_at moment held, Err refusal)

-- ---- the join

-- The bytes are those of the pieces with the numbers from this one to a last one, in the order of
-- their numbers.
pub data JoinsFrom (pieces : List PieceParts) : ℕ → List ℕ → Type 0 where
  Last : (number : ℕ) → (x : PieceParts) → piece_at number pieces ≡ Some x → x.more ≡ false
      → JoinsFrom pieces number x.bytes
  Next : (number : ℕ) → (x : PieceParts) → (later : List ℕ) → piece_at number pieces ≡ Some x
      → x.more ≡ true → JoinsFrom pieces (number + 1) later
      → JoinsFrom pieces number (x.bytes ++ later)

-- A packet that is given is the join of the pieces that are held and the one that completes them.
abbrev pub JoinsByNumber : Type 0
JoinsByNumber = (held : List PacketParts) (id : ℕ) (x : PieceParts) (moment : ℕ)
    (packet : List ℕ)
    → answer_then held id x moment ≡ Ok (Whole packet)
    → JoinsFrom (pieces_under id (kept_at moment held) ++ x ∷ []) 0 packet

-- Where a piece is held and nothing is given, the pieces from 0 to a last one aren't all there.
abbrev pub KeepsWhatIsNotWhole : Type 0
KeepsWhatIsNotWhole = (held : List PacketParts) (id : ℕ) (x : PieceParts) (moment : ℕ)
    (packet : List ℕ)
    → IsWithinLimits held → answer_then held id x moment ≡ Ok Kept
    → JoinsFrom (pieces_under id (kept_at moment held) ++ x ∷ []) 0 packet → ⊥

-- The packet has the bytes of all pieces that were held of it and of the one that completes it, at
-- most 4,096.
pub record HasAllBytes (pieces : List PieceParts) (x : PieceParts) (packet : List ℕ)
    : Type 0 where
  pub all : length packet ≡ held_bytes pieces + length x.bytes
  pub few : length packet ≤ 4096

-- Nothing that is held of a packet is left out of it.
abbrev pub GivesAllPieces : Type 0
GivesAllPieces = (held : List PacketParts) (id : ℕ) (x : PieceParts) (moment : ℕ)
    (packet : List ℕ)
    → IsWithinLimits held → answer_then held id x moment ≡ Ok (Whole packet)
    → HasAllBytes (pieces_under id (kept_at moment held)) x packet

-- ---- the pieces of one packet

abbrev pub IsPieceOf : List ℕ → ℕ → PieceParts → Type 0
IsPieceOf packet size x = piece_at x.number (pieces_of packet size) ≡ Some x

-- a piece with this answer is held or completes a packet
abbrev pub is_taking : Result Gathered PieceRefusal → Bool
is_taking (Ok Again) = false
is_taking (Ok Kept) = true
is_taking (Ok (Whole packet)) = true
is_taking (Err refusal) = false

-- of these calls each that took a piece under this id took a piece of this packet
abbrev pub AllOfOne : ℕ → List ℕ → ℕ → List Happening → Type 0
AllOfOne id packet size [] = Unit {0}
AllOfOne id packet size (Took its x moment ∷ before) =
    (its ≡ id → is_taking (answer_then (held_by before) its x moment) ≡ true
    → IsPieceOf packet size x)
    × AllOfOne id packet size before
AllOfOne id packet size (Lacked its x moment ∷ before) = AllOfOne id packet size before

-- Where each piece that was taken under an id is one of one packet's, whatever was taken under
-- others, and in whatever order, what is given under it is that packet.
abbrev pub GivesThePacket : Type 0
GivesThePacket = (happened : List Happening) (id size : ℕ) (packet given : List ℕ)
    (x : PieceParts) (moment : ℕ)
    → AllOfOne id packet size (Took id x moment ∷ happened)
    → answer_then (held_by happened) id x moment ≡ Ok (Whole given)
    → given ≡ packet

-- it is held, gives a packet or was held before, or 4 other packets are held
abbrev pub IsTakenOrFull : Result Gathered PieceRefusal → Type 0
IsTakenOrFull (Ok gathered) = Unit {0}
IsTakenOrFull (Err (TooMany number)) = ⊥
IsTakenOrFull (Err (Conflict number)) = ⊥
IsTakenOrFull (Err (TooLong bytes)) = ⊥
IsTakenOrFull (Err (PacketsFull packets)) = packets ≡ 4
IsTakenOrFull (Err Memory) = ⊥

-- Where each piece that was taken under an id is one of one packet's, which can be split so, a piece
-- of that packet is refused for want of memory or of a place alone.
abbrev pub RefusesNoTruePiece : Type 0
RefusesNoTruePiece = (happened : List Happening) (id size : ℕ) (packet : List ℕ)
    (x : PieceParts) (moment : ℕ)
    → length packet ≤ 4096 → length packet ≤ 64 * size
    → AllOfOne id packet size happened → IsPieceOf packet size x
    → IsTakenOrFull (answer_then (held_by happened) id x moment)

-- ---- each piece once

-- a call took a piece of this number under this id
abbrev pub WasTaken : ℕ → ℕ → List Happening → Type 0
WasTaken id number [] = ⊥
WasTaken id number (Took its x moment ∷ before) =
    ((its ≡ id) × (x.number ≡ number)
    × (is_taking (answer_then (held_by before) its x moment) ≡ true))
    ⊎ WasTaken id number before
WasTaken id number (Lacked its x moment ∷ before) = WasTaken id number before

-- no two calls took pieces of one number under this id
abbrev pub EachOnce : ℕ → List Happening → Type 0
EachOnce id [] = Unit {0}
EachOnce id (Took its x moment ∷ before) =
    (its ≡ id → is_taking (answer_then (held_by before) its x moment) ≡ true
    → WasTaken id x.number before → ⊥)
    × EachOnce id before
EachOnce id (Lacked its x moment ∷ before) = EachOnce id before

-- a call gave a packet under this id
abbrev pub WasGiven : ℕ → List Happening → Type 0
WasGiven id [] = ⊥
WasGiven id (Took its x moment ∷ before) =
    ((its ≡ id) × ((packet : List ℕ) × (answer_then (held_by before) its x moment
    ≡ Ok (Whole packet))))
    ⊎ WasGiven id before
WasGiven id (Lacked its x moment ∷ before) = WasGiven id before

-- Where no number is taken twice under an id, no second packet is given under it.
abbrev pub GivesOnce : Type 0
GivesOnce = (happened : List Happening) (id : ℕ) (x : PieceParts) (moment : ℕ)
    (packet : List ℕ)
    → EachOnce id (Took id x moment ∷ happened)
    → answer_then (held_by happened) id x moment ≡ Ok (Whole packet)
    → WasGiven id happened → ⊥

-- ---- all pieces

-- at none of these calls the packet of this id was forgotten for its age
abbrev pub NoneForgotten : ℕ → List Happening → Type 0
NoneForgotten id [] = Unit {0}
NoneForgotten id (Took its x moment ∷ before) =
    (pieces_under id (kept_at moment (held_by before)) ≡ pieces_under id (held_by before))
    × NoneForgotten id before
NoneForgotten id (Lacked its x moment ∷ before) =
    (pieces_under id (kept_at moment (held_by before)) ≡ pieces_under id (held_by before))
    × NoneForgotten id before

-- Where each piece of a packet of at most 64 was taken under an id, in whatever order and with
-- whatever others between, and none of it was forgotten, the packet was given.
abbrev pub GivesAtLast : Type 0
GivesAtLast = (happened : List Happening) (id size : ℕ) (packet : List ℕ)
    → 0 < size → length packet ≤ 64 * size
    → AllOfOne id packet size happened → NoneForgotten id happened
    → ((x : PieceParts) → IsPieceOf packet size x → WasTaken id x.number happened)
    → WasGiven id happened
