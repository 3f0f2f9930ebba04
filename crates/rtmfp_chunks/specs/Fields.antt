-- The fields that chunks are made of.
use Rattle.std.specs.Prelude.{◌≡◌, ℕ, ◌+◌, ◌^◌, ◌<◌, ◌⊎◌, Bool, nat_le, List, [], ◌∷◌, ◌++◌, length}
use Rattle.std.specs.Int.{w32, to_be_bytes}
use Rattle.rtmfp_vlu.specs.Vlu.{VluSpells, IsCut, IsLarge}
use Rattle.rtmfp_forms.specs.Address.{AddressParts, AddressSpells, IsCutAddress}

-- a field that others can follow
pub data Field : Type 0 where
  -- bytes behind their length in a VLU
  Counted : (bytes : List ℕ) → Field
  -- a VLU
  Number : (number : ℕ) → Field
  -- a session ID in 4 bytes
  SessionId : (id : ℕ) → Field
  -- a byte of flags, the highest of which says whether more fragments follow; the others are
  -- ignored
  More : (more : Bool) → Field
  OneAddress : (address : AddressParts) → Field

-- the fields of a payload, one after another, the last of which goes to its end
pub data Parts : Type 0 where
  Then : (first : Field) → (others : Parts) → Parts
  Rest : (bytes : List ℕ) → Parts
  -- addresses, in the bytes that spell them
  AddressList : (list : List ℕ) → Parts
  -- any bytes, which say nothing
  Ignored : Parts

-- ---- what spells them

-- the bytes behind their length, in any spelling of it
pub record CountedSpells (bytes b : List ℕ) : Type 0 where
  pub count : List ℕ
  pub spells : VluSpells (length bytes) count
  pub joined : b ≡ count ++ bytes

pub record FlagsSpell (more : Bool) (b : List ℕ) : Type 0 where
  pub flags : ℕ
  pub fits : flags < 256
  pub highest : more ≡ nat_le 128 flags
  pub whole : b ≡ flags ∷ []

abbrev pub FieldSpells : Field → List ℕ → Type 0
FieldSpells (Counted bytes) b = CountedSpells bytes b
FieldSpells (Number number) b = VluSpells number b
FieldSpells (SessionId id) b = (id < 2 ^ 32) × (b ≡ to_be_bytes w32 id)
FieldSpells (More more) b = FlagsSpell more b
FieldSpells (OneAddress address) b = AddressSpells address b

abbrev pub AddressesSpell : List AddressParts → List ℕ → Type 0
AddressesSpell [] b = b ≡ []
AddressesSpell (a ∷ addresses) b =
    (front : List ℕ) × (rest : List ℕ) × (b ≡ front ++ rest) × AddressSpells a front ×
    AddressesSpell addresses rest

-- whole addresses, and nothing else
abbrev pub AreAddresses : List ℕ → Type 0
AreAddresses b = (addresses : List AddressParts) × AddressesSpell addresses b

-- the fields, one after another, are the bytes
abbrev pub PartsSpell : Parts → List ℕ → Type 0
PartsSpell (Then first others) b =
    (front : List ℕ) × (rest : List ℕ) × (b ≡ front ++ rest) × FieldSpells first front ×
    PartsSpell others rest
PartsSpell (Rest bytes) b = b ≡ bytes
PartsSpell (AddressList list) b = (b ≡ list) × AreAddresses b
PartsSpell Ignored b = Unit {0}

-- ---- which fields stand where

pub data Form : Type 0 where
  CountedForm : Form
  NumberForm : Form
  SessionIdForm : Form
  MoreForm : Form
  AddressForm : Form

pub data Row : Type 0 where
  ThenRow : (first : Form) → (others : Row) → Row
  RestRow : Row
  AddressesRow : Row
  IgnoredRow : Row

abbrev pub form_of : Field → Form
form_of (Counted bytes) = CountedForm
form_of (Number number) = NumberForm
form_of (SessionId id) = SessionIdForm
form_of (More more) = MoreForm
form_of (OneAddress address) = AddressForm

-- ---- where they break

-- no VLU stands in front: it is cut off, or large
abbrev pub NoVlu : List ℕ → Type 0
NoVlu b = IsCut b ⊎ IsLarge b

-- a length stands in front, and fewer bytes than it says follow, which begin at this offset
pub record IsCutAfter (b : List ℕ) (at : ℕ) : Type 0 where
  pub size : ℕ
  pub count : List ℕ
  pub rest : List ℕ
  pub spells : VluSpells size count
  pub joined : b ≡ count ++ rest
  pub cut : length rest < size
  pub begins : at ≡ length count

-- no field of this form stands in front, and what of it isn't there whole, or is large, begins at
-- this offset
abbrev pub FieldBreaks : Form → List ℕ → ℕ → Type 0
FieldBreaks CountedForm b at = (NoVlu b × (at ≡ 0)) ⊎ IsCutAfter b at
FieldBreaks NumberForm b at = NoVlu b × (at ≡ 0)
FieldBreaks SessionIdForm b at = (length b < 4) × (at ≡ 0)
FieldBreaks MoreForm b at = (b ≡ []) × (at ≡ 0)
FieldBreaks AddressForm b at = IsCutAddress b × (at ≡ 0)

-- whole addresses, and then some bytes, from this offset on, with which no whole address begins
pub record AddressesBreak (b : List ℕ) (at : ℕ) : Type 0 where
  pub addresses : List AddressParts
  pub front : List ℕ
  pub rest : List ℕ
  pub joined : b ≡ front ++ rest
  pub whole : AddressesSpell addresses front
  pub some : 0 < length rest
  pub cut : IsCutAddress rest
  pub begins : at ≡ length front

-- the first field that isn't there breaks at this offset
abbrev pub RowBreaks : Row → List ℕ → ℕ → Type 0
RowBreaks (ThenRow first others) b at =
    FieldBreaks first b at
    ⊎ ((field : Field) × (front : List ℕ) × (rest : List ℕ) × (later : ℕ) ×
    (form_of field ≡ first) × (b ≡ front ++ rest) × FieldSpells field front
    × RowBreaks others rest later × (at ≡ length front + later))
RowBreaks RestRow b at = ⊥
RowBreaks AddressesRow b at = AddressesBreak b at
RowBreaks IgnoredRow b at = ⊥
