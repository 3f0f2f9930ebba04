-- What spells the chunks of flows: the fields of each, one after another.
use Rattle.std.specs.Prelude.{◌≡◌, ℕ, ◌+◌, ◌-◌, ◌^◌, ◌<◌, ◌≤◌, ◌==◌, ◌||◌, ◌⊎◌, Bool, true, false, List, [], ◌∷◌, ◌++◌, length, Option, Some, None, Result, Ok, Err}
use Rattle.rtmfp_vlu.specs.Vlu.{VluSpells}
use Rattle.rtmfp_data_chunks.specs.declared.user_data.Numbers.{Numbers}
use Rattle.rtmfp_data_chunks.specs.declared.view.DataView.{DataView}
use Rattle.rtmfp_data_chunks.specs.declared.view.DataFault.{DataFault}
use Rattle.rtmfp_data_chunks.specs.declared.view.DataFault.TheVariants.{Unknown, Malformed, BadOffset}
use Rattle.rtmfp_data_chunks.specs.Chunk.{UserParts, DataChunk, Data, Next, AckBitmap, AckRanges, Probe, Exception, data_chunk}
use Rattle.rtmfp_data_chunks.specs.Fields.{NumbersSpell, NumbersBreak, flag, FlagsTell, OptionsStand, OptionsBreak}
use Rattle.rtmfp_data_chunks.specs.Acks.{BitsFit, BitsPass, PairsTell, PairsBreak}

-- ---- data: flags, the flow, the number, how far the forward number is behind it, options where
-- flagged, bytes

-- the forward number is at or below the number, and at it only where this is given up
abbrev pub IsBehind : ℕ → ℕ → Bool → Type 0
IsBehind forward seq abandon = (forward ≤ seq) × (forward ≡ seq → abandon ≡ true)

pub record UserSpells (user : UserParts) (b : List ℕ) : Type 0 where
  pub flags : ℕ
  pub numbers : List ℕ
  pub offset : List ℕ
  pub options : List ℕ
  pub tell : FlagsTell flags user
  pub flow_seq : NumbersSpell (user.flow ∷ user.seq ∷ []) numbers
  pub is_behind : IsBehind user.forward user.seq user.abandon
  pub forward : VluSpells (user.seq - user.forward) offset
  pub stand : OptionsStand user.options options
  pub whole : b ≡ flags ∷ (numbers ++ (offset ++ (options ++ user.bytes)))

-- an offset of the forward number stands there that passes the number, or is 0 without abandon
pub record HasBadOffset (b : List ℕ) (at : ℕ) : Type 0 where
  pub flags : ℕ
  pub flow : ℕ
  pub seq : ℕ
  pub behind : ℕ
  pub numbers : List ℕ
  pub offset : List ℕ
  pub rest : List ℕ
  pub flow_seq : NumbersSpell (flow ∷ seq ∷ []) numbers
  pub forward : VluSpells behind offset
  pub bad : (seq < behind) ⊎ ((behind ≡ 0) × (flag flags 1 ≡ false))
  pub whole : b ≡ flags ∷ (numbers ++ (offset ++ rest))
  pub begins : at ≡ 1 + length numbers

-- all up to the options is good, and they are not
pub record HasBadOptions (b : List ℕ) (at : ℕ) : Type 0 where
  pub flags : ℕ
  pub flow : ℕ
  pub seq : ℕ
  pub behind : ℕ
  pub numbers : List ℕ
  pub offset : List ℕ
  pub rest : List ℕ
  pub flow_seq : NumbersSpell (flow ∷ seq ∷ []) numbers
  pub forward : VluSpells behind offset
  pub good : (behind ≤ seq) × (behind ≡ 0 → flag flags 1 ≡ true)
  pub breaks : OptionsBreak flags rest
  pub whole : b ≡ flags ∷ (numbers ++ (offset ++ rest))
  pub begins : at ≡ 1 + (length numbers + length offset)

-- flags stand in front, and behind them so many numbers don't
abbrev pub FlaggedBreak : ℕ → List ℕ → ℕ → Type 0
FlaggedBreak count [] at = at ≡ 0
FlaggedBreak count (flags ∷ b) at = (within : ℕ) × NumbersBreak count b within × (at ≡ 1 + within)

abbrev pub UserBreaks : List ℕ → ℕ → Type 0
UserBreaks b at = FlaggedBreak 3 b at ⊎ HasBadOptions b at

-- ---- next: flags, options where flagged, bytes; the numbers come from the chunk before it

-- a chunk came before whose number has a next one
abbrev pub HasNext : Option Numbers → Type 0
HasNext None = ⊥
HasNext (Some before) = before.seq + 1 < 2 ^ 64

-- the flow and the forward number of the chunk before it, and the next number
abbrev pub Follows : UserParts → Option Numbers → Type 0
Follows user None = ⊥
Follows user (Some before) = (user.flow ≡ before.flow) × (user.seq ≡ before.seq + 1) ×
    (user.forward ≡ before.forward)

pub record NextSpells (user : UserParts) (last : Option Numbers) (b : List ℕ) : Type 0 where
  pub flags : ℕ
  pub options : List ℕ
  pub tell : FlagsTell flags user
  pub has_next : HasNext last
  pub follows : Follows user last
  pub stand : OptionsStand user.options options
  pub whole : b ≡ flags ∷ (options ++ user.bytes)

abbrev pub NextBodyBreaks : List ℕ → ℕ → Type 0
NextBodyBreaks [] at = at ≡ 0
NextBodyBreaks (flags ∷ b) at = OptionsBreak flags b × (at ≡ 1)

abbrev pub NextBreaks : Option Numbers → List ℕ → ℕ → Type 0
NextBreaks last b at = ((HasNext last → ⊥) × (at ≡ 0)) ⊎ (HasNext last × NextBodyBreaks b at)

-- ---- acks: the flow, the blocks of 1,024 bytes that there is room for, the cumulative number, and
-- bits or pairs

pub record BitmapSpells (flow blocks upto : ℕ) (bits b : List ℕ) : Type 0 where
  pub numbers : List ℕ
  pub spell : NumbersSpell (flow ∷ blocks ∷ upto ∷ []) numbers
  pub fit : BitsFit upto bits
  pub whole : b ≡ numbers ++ bits

pub record AckRangesSpell (flow blocks upto : ℕ) (pairs b : List ℕ) : Type 0 where
  pub numbers : List ℕ
  pub spans : List (ℕ × ℕ)
  pub spell : NumbersSpell (flow ∷ blocks ∷ upto ∷ []) numbers
  pub tell : PairsTell upto spans pairs
  pub whole : b ≡ numbers ++ pairs

-- what follows the cumulative number breaks so, at an offset from there
pub record AckBreaks (Breaks : ℕ → List ℕ → ℕ → Type 0) (b : List ℕ) (at : ℕ) : Type 0 where
  pub flow : ℕ
  pub blocks : ℕ
  pub upto : ℕ
  pub numbers : List ℕ
  pub rest : List ℕ
  pub within : ℕ
  pub spell : NumbersSpell (flow ∷ blocks ∷ upto ∷ []) numbers
  pub breaks : Breaks upto rest within
  pub whole : b ≡ numbers ++ rest
  pub begins : at ≡ length numbers + within

-- ---- numbers alone, behind which bytes say nothing

abbrev pub NumbersStand : List ℕ → List ℕ → Type 0
NumbersStand ns b = (numbers : List ℕ) × (rest : List ℕ) × NumbersSpell ns numbers ×
    (b ≡ numbers ++ rest)

-- ---- all chunks

-- the type of each
abbrev pub kind_of : DataChunk → ℕ
kind_of (Data user) = 0x10
kind_of (Next user) = 0x11
kind_of (AckBitmap flow blocks upto bits) = 0x50
kind_of (AckRanges flow blocks upto pairs) = 0x51
kind_of (Probe flow) = 0x18
kind_of (Exception flow code) = 0x5e

-- the fields of each, behind the chunk before it
abbrev pub PayloadSpells : DataChunk → Option Numbers → List ℕ → Type 0
PayloadSpells (Data user) last b = UserSpells user b
PayloadSpells (Next user) last b = NextSpells user last b
PayloadSpells (AckBitmap flow blocks upto bits) last b = BitmapSpells flow blocks upto bits b
PayloadSpells (AckRanges flow blocks upto pairs) last b = AckRangesSpell flow blocks upto pairs b
PayloadSpells (Probe flow) last b = NumbersStand (flow ∷ []) b
PayloadSpells (Exception flow code) last b = NumbersStand (flow ∷ code ∷ []) b

abbrev pub DataSpells : DataChunk → Option Numbers → ℕ → List ℕ → Type 0
DataSpells chunk last kind b = (kind ≡ kind_of chunk) × PayloadSpells chunk last b

abbrev pub is_known : ℕ → Bool
is_known kind = (kind == 0x10) || (kind == 0x11) || (kind == 0x50) || (kind == 0x51)
    || (kind == 0x18) || (kind == 0x5e)

-- the first field that can't be read begins at this offset
abbrev pub Breaks : Option Numbers → ℕ → List ℕ → ℕ → Type 0
Breaks last kind b at =
    ((kind ≡ 0x10) × UserBreaks b at)
    ⊎ (((kind ≡ 0x11) × NextBreaks last b at)
    ⊎ (((kind ≡ 0x50) × (NumbersBreak 3 b at ⊎ AckBreaks BitsPass b at))
    ⊎ (((kind ≡ 0x51) × (NumbersBreak 3 b at ⊎ AckBreaks PairsBreak b at))
    ⊎ (((kind ≡ 0x18) × NumbersBreak 1 b at)
    ⊎ ((kind ≡ 0x5e) × NumbersBreak 2 b at)))))

-- how a payload reads: as a chunk that it spells, or not
abbrev pub DataReading : Option Numbers → ℕ → List ℕ → Result DataChunk DataFault → Type 0
DataReading last kind b (Ok chunk) = DataSpells chunk last kind b
DataReading last kind b (Err (Unknown told)) = (told ≡ kind) × (is_known kind ≡ false)
DataReading last kind b (Err (Malformed at)) = Breaks last kind b at
DataReading last kind b (Err (BadOffset at)) = (kind ≡ 0x10) × HasBadOffset b at

-- what a reader's answer shows
abbrev pub shown : Result DataView DataFault → Result DataChunk DataFault
shown (Ok view) = Ok (data_chunk view)
shown (Err fault) = Err fault

-- what the next chunk stands behind: a data or next chunk that was read
abbrev pub before_next : Result DataChunk DataFault → Option Numbers
before_next (Ok (Data user)) =
    Some (record { flow = user.flow; seq = user.seq; forward = user.forward })
before_next (Ok (Next user)) =
    Some (record { flow = user.flow; seq = user.seq; forward = user.forward })
before_next (Ok (AckBitmap flow blocks upto bits)) = None
before_next (Ok (AckRanges flow blocks upto pairs)) = None
before_next (Ok (Probe flow)) = None
before_next (Ok (Exception flow code)) = None
before_next (Err fault) = None

-- its forward number is at or below its number
abbrev pub IsOrdered : Option Numbers → Type 0
IsOrdered None = Unit {0}
IsOrdered (Some before) = before.forward ≤ before.seq
