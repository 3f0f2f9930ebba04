-- What `show` prints of one line.
use Rattle.std.specs.Prelude.{◌≡◌, ◌≤◌, ℕ, List, length, Ok}
use Rattle.hex.specs.Hex.{decode_of}
use Rattle.rtmfp_show.specs.ShowText.{PacketText}

-- the longest line of `show`
abbrev pub show_limit : ℕ
show_limit = 4096

-- the line is a packet in hexadecimal digits, in either case: an even number of them, which may be
-- 0
pub record ShowsPacket (line : List ℕ) (b : List ℕ) : Type 0 where
  pub fits : length line ≤ show_limit
  pub decoded : decode_of line ≡ Ok b

-- what is printed of the line
pub record ShowsLine (line text : List ℕ) : Type 0 where
  pub bytes : List ℕ
  pub packet : ShowsPacket line bytes
  pub printed : PacketText bytes text

-- the line is outside the grammar
abbrev pub IsNoPacket : List ℕ → Type 0
IsNoPacket line = (b : List ℕ) → ShowsPacket line b → ⊥
