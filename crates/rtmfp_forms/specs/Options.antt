-- Options and lists of them (RFC 7016 sections 2.1.3 and 2.1.4).
use Rattle.std.specs.Prelude.{◌≡◌, ℕ, ◌<◌, ◌≤◌, ◌⊎◌, List, [], ◌∷◌, ◌++◌, length, take, Result, Ok, Err}
use Rattle.std.specs.List.{flat_map}
use Rattle.rtmfp_vlu.specs.Vlu.{VluSpells, IsCut, IsLarge, vlu}
use Rattle.rtmfp_forms.specs.declared.fault.FormFault.{FormFault}
use Rattle.rtmfp_forms.specs.declared.fault.FormFault.TheVariants.{Short, Large, NoMarker}

-- an option as contracts see it
pub record OptionParts : Type 0 where
  pub kind : ℕ
  pub value : List ℕ

-- a spelled length, which is above 0, and that many bytes: a spelled kind and the value
pub record PieceSpells (o : OptionParts) (piece : List ℕ) : Type 0 where
  pub size_bytes : List ℕ
  pub kind_bytes : List ℕ
  pub size : VluSpells (length (kind_bytes ++ o.value)) size_bytes
  pub kind : VluSpells o.kind kind_bytes
  pub whole : piece ≡ size_bytes ++ (kind_bytes ++ o.value)

-- one piece for each option
abbrev pub PiecesSpell : List OptionParts → List ℕ → Type 0
PiecesSpell [] bytes = bytes ≡ []
PiecesSpell (o ∷ os) bytes = (piece : List ℕ) × (rest : List ℕ) × (bytes ≡ piece ++ rest) ×
    PieceSpells o piece × PiecesSpell os rest

-- the pieces, and then a spelling of 0 as the marker
pub record OptionsSpell (os : List OptionParts) (bytes : List ℕ) : Type 0 where
  pub pieces : List ℕ
  pub marker : List ℕ
  pub whole : bytes ≡ pieces ++ marker
  pub each : PiecesSpell os pieces
  pub is_marker : VluSpells 0 marker

-- ---- faults

-- a length above 0 stands in front, and this is what is there of the bytes that it counts
pub record HasPiece (bytes : List ℕ) (size : ℕ) (counted : List ℕ) : Type 0 where
  pub size_bytes : List ℕ
  pub after : List ℕ
  pub whole : bytes ≡ size_bytes ++ after
  pub spelled : VluSpells size size_bytes
  pub some : 0 < size
  pub is_counted : counted ≡ take size after

-- the kind leaves the bytes that are counted, or these aren't there whole
abbrev pub IsCutPiece : ℕ → List ℕ → Type 0
IsCutPiece size counted =
    IsCut counted ⊎ ((kind : ℕ) × (n : ℕ) × (n ≤ length counted) × VluSpells kind (take n counted) ×
    (length counted < size))

-- what is wrong where an option or the marker has to stand
abbrev pub IsFaultAt : FormFault → List ℕ → Type 0
IsFaultAt Short bytes = ((0 < length bytes) × IsCut bytes) ⊎
    ((size : ℕ) × (counted : List ℕ) × HasPiece bytes size counted × IsCutPiece size counted)
IsFaultAt Large bytes = IsLarge bytes ⊎ ((size : ℕ) × (counted : List ℕ) ×
    HasPiece bytes size counted × IsLarge counted)
IsFaultAt NoMarker bytes = bytes ≡ []

-- whole options, and then this fault
pub record HasFault (fault : FormFault) (bytes : List ℕ) : Type 0 where
  pub options : List OptionParts
  pub pieces : List ℕ
  pub rest : List ℕ
  pub whole : bytes ≡ pieces ++ rest
  pub each : PiecesSpell options pieces
  pub is_fault : IsFaultAt fault rest

-- what a reader found, or why it found nothing
abbrev pub Lists : List ℕ → Result (List OptionParts × ℕ) FormFault → Type 0
Lists bytes (Ok found) = (found.1 ≤ length bytes) × OptionsSpell found.0 (take found.1 bytes)
Lists bytes (Err fault) = HasFault fault bytes

-- ---- the one spelling that is written

-- what the length counts
abbrev pub counted_bytes : OptionParts → List ℕ
counted_bytes o = vlu o.kind ++ o.value

abbrev pub option_bytes : OptionParts → List ℕ
option_bytes o = vlu (length (counted_bytes o)) ++ counted_bytes o

abbrev pub options_bytes : List OptionParts → List ℕ
options_bytes os = flat_map option_bytes os ++ vlu 0
