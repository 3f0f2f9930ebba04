-- The head of a plain packet (RFC 7016 section 2.2.4): a byte of flags, then the timestamp and the
-- echo, each where it is flagged. Own: two bits of the flags are not looked at.
use Rattle.std.specs.Prelude.{◌≡◌, ◌≢◌, ℕ, ◌+◌, ◌%◌, ◌^◌, ◌<◌, ◌==◌, Bool, List, [], ◌∷◌, ◌++◌, length, Option, Some, None, is_some, IfSome, if◌then◌else◌}
use Rattle.std.specs.Int.{bit_at, to_be_bytes, w16}
use Rattle.rtmfp_packet.specs.declared.head.PacketHead.{PacketHead}
use Rattle.rtmfp_packet.specs.declared.head.Mode.{Mode}
use Rattle.rtmfp_packet.specs.declared.head.Mode.TheVariants.{Initiator, Responder, Startup}

abbrev pub mode_number : Mode → ℕ
mode_number Initiator = 1
mode_number Responder = 2
mode_number Startup = 3

-- bit k of the flags is set
abbrev pub flag : ℕ → ℕ → Bool
flag flags k = bit_at flags k == 1

-- the flags say what the head has: 80 time critical, 40 time critical reverse, 08 timestamp, 04
-- echo, 03 mode
pub record FlagsTell (flags : ℕ) (head : PacketHead) : Type 0 where
  pub byte : flags < 256
  pub critical : flag flags 7 ≡ head.critical
  pub reverse : flag flags 6 ≡ head.reverse
  pub stamp : flag flags 3 ≡ is_some head.stamp
  pub echo : flag flags 2 ≡ is_some head.echo
  pub mode : flags % 4 ≡ mode_number head.mode

-- two bytes where there is a value, and none where there is none
abbrev pub stamp_bytes : Option ℕ → List ℕ
stamp_bytes None = []
stamp_bytes (Some stamp) = to_be_bytes w16 stamp

abbrev pub IsStamp : Option ℕ → Type 0
IsStamp stamp = IfSome stamp (λ s. s < 2 ^ 16)

-- the bytes are a spelling of the head
pub record HeadSpells (head : PacketHead) (b : List ℕ) : Type 0 where
  pub flags : ℕ
  pub tell : FlagsTell flags head
  pub stamp : IsStamp head.stamp
  pub echo : IsStamp head.echo
  pub joined : b ≡ flags ∷ (stamp_bytes head.stamp ++ stamp_bytes head.echo)

-- the mode bits of the flags are 0
abbrev pub IsModeZero : List ℕ → Type 0
IsModeZero [] = ⊥
IsModeZero (flags ∷ rest) = flags % 4 ≡ 0

-- two bytes for what is flagged
abbrev pub flagged_len : Bool → ℕ
flagged_len is_flagged = if is_flagged then 2 else 0

-- there is a mode, and a flagged timestamp or echo isn't there whole
abbrev pub IsShortStamp : List ℕ → Type 0
IsShortStamp [] = ⊥
IsShortStamp (flags ∷ rest) = (flags % 4 ≢ 0) ×
    (length rest < flagged_len (flag flags 3) + flagged_len (flag flags 2))

-- ---- the one spelling that is written

abbrev pub flag_value : Bool → ℕ → ℕ
flag_value is_set bit = if is_set then bit else 0

-- the flags of a head: bits that say nothing are 0
abbrev pub head_flags : PacketHead → ℕ
head_flags head =
    flag_value head.critical 128 + flag_value head.reverse 64 + flag_value (is_some head.stamp) 8
    + flag_value (is_some head.echo) 4
    + mode_number head.mode

abbrev pub head_bytes : PacketHead → List ℕ
head_bytes head = head_flags head ∷ (stamp_bytes head.stamp ++ stamp_bytes head.echo)
