-- The fields that chunks of flows are made of.
use Rattle.std.specs.Prelude.{◌≡◌, ℕ, ◌/◌, ◌%◌, ◌<◌, ◌==◌, ◌⊎◌, Bool, true, List, [], ◌∷◌, ◌++◌, length, Option, Some, None, is_some}
use Rattle.std.specs.Int.{bit_at}
use Rattle.rtmfp_vlu.specs.Vlu.{VluSpells, IsCut, IsLarge}
use Rattle.rtmfp_forms.specs.declared.fault.FormFault.{FormFault}
use Rattle.rtmfp_forms.specs.Options.{OptionParts, OptionsSpell, HasFault}
use Rattle.rtmfp_data_chunks.specs.declared.user_data.Part.{Part}
use Rattle.rtmfp_data_chunks.specs.declared.user_data.Part.TheVariants.{Whole, Begin, End, Middle}
use Rattle.rtmfp_data_chunks.specs.Chunk.{UserParts}

-- ---- numbers

-- these numbers stand one after another, each in any spelling
abbrev pub NumbersSpell : List ℕ → List ℕ → Type 0
NumbersSpell [] s = s ≡ []
NumbersSpell (n ∷ ns) s = (first : List ℕ) × (others : List ℕ) × VluSpells n first ×
    (s ≡ first ++ others) × NumbersSpell ns others

-- no number stands in front
abbrev pub NoNumber : List ℕ → Type 0
NoNumber b = IsCut b ⊎ IsLarge b

-- fewer than so many numbers stand in front, and behind them, at this offset, none
pub record NumbersBreak (count : ℕ) (b : List ℕ) (at : ℕ) : Type 0 where
  pub numbers : List ℕ
  pub front : List ℕ
  pub rest : List ℕ
  pub fewer : length numbers < count
  pub spell : NumbersSpell numbers front
  pub whole : b ≡ front ++ rest
  pub none : NoNumber rest
  pub begins : at ≡ length front

-- ---- flags

-- bit k of the flags is set
abbrev pub flag : ℕ → ℕ → Bool
flag flags k = bit_at flags k == 1

-- how the flags tell the part
abbrev pub part_number : Part → ℕ
part_number Whole = 0
part_number Begin = 1
part_number End = 2
part_number Middle = 3

-- what the flags tell: 80 options, 30 the part, 02 abandon, 01 last. Other bits tell nothing
pub record FlagsTell (flags : ℕ) (user : UserParts) : Type 0 where
  pub options : flag flags 7 ≡ is_some user.options
  pub part : flags / 16 % 4 ≡ part_number user.part
  pub abandon : flag flags 1 ≡ user.abandon
  pub last : flag flags 0 ≡ user.last

-- ---- options

-- a list of options where there is one, and else nothing
abbrev pub OptionsStand : Option (List OptionParts) → List ℕ → Type 0
OptionsStand None s = s ≡ []
OptionsStand (Some options) s = OptionsSpell options s

-- options are flagged, and no list of them stands in front
abbrev pub OptionsBreak : ℕ → List ℕ → Type 0
OptionsBreak flags b = (flag flags 7 ≡ true) × (fault : FormFault) × HasFault fault b
