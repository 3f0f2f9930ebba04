-- What reading a packet gave.
use Rattle.std.specs.Prelude.{◌≡◌, ℕ, ◌+◌, List, [], ◌∷◌, ◌++◌, length, Result, Ok, Err}
use Rattle.std.specs.List.{flat_map}
use Rattle.std.specs.Borrow.{Bor}
use Rattle.rtmfp_packet.specs.declared.head.PacketHead.{PacketHead}
use Rattle.rtmfp_packet.specs.declared.head.PacketFault.{PacketFault}
use Rattle.rtmfp_packet.specs.declared.head.PacketFault.TheVariants.{Empty, ModeZero, ShortStamp}
use Rattle.rtmfp_packet.specs.Head.{HeadSpells, IsModeZero, IsShortStamp}
use Rattle.rtmfp_packet.specs.Spelling.{PacketSpells, chunk_bytes}
use Rattle.rtmfp_packet.specs.Whole.{Whole}

-- these flags and the bytes behind them begin with the head, or have the fault
abbrev pub HeadReads : ℕ → List ℕ → Result (PacketHead × Bor (List ℕ)) PacketFault → Type 0
HeadReads flags b (Ok found) = (front : List ℕ) × HeadSpells found.0 front ×
    (flags ∷ b ≡ front ++ found.1.now)
HeadReads flags b (Err Empty) = ⊥
HeadReads flags b (Err ModeZero) = IsModeZero (flags ∷ b)
HeadReads flags b (Err ShortStamp) = IsShortStamp (flags ∷ b)

-- the bytes spell what was read, whose first chunk stands where the head ends
pub record Reads (packet : Whole) (b : List ℕ) : Type 0 where
  pub spells : PacketSpells packet.head packet.chunks packet.padding b
  pub start : packet.start + length (flat_map chunk_bytes packet.chunks ++ packet.padding)
      ≡ length b

-- how bytes read: as a packet that they spell, or with the fault of their head
abbrev pub PacketReading : List ℕ → Result Whole PacketFault → Type 0
PacketReading b (Ok packet) = Reads packet b
PacketReading b (Err Empty) = b ≡ []
PacketReading b (Err ModeZero) = IsModeZero b
PacketReading b (Err ShortStamp) = IsShortStamp b
