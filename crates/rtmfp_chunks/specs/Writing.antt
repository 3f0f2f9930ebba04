-- The one spelling of a chunk that is written: VLUs in their shortest, and a redirect's addresses
-- as they stand.
use Rattle.std.specs.Prelude.{ℕ, ◌^◌, ◌<◌, if◌then◌else◌, List, [], ◌∷◌, ◌++◌, length}
use Rattle.std.specs.Int.{w16, w32, to_be_bytes}
use Rattle.rtmfp_vlu.specs.Vlu.{vlu}
use Rattle.rtmfp_forms.specs.Address.{IsAddress, address_bytes}
use Rattle.rtmfp_chunks.specs.Fields.{Field, Counted, Number, SessionId, More, OneAddress, Parts, Then, Rest, AddressList, Ignored, AreAddresses}
use Rattle.rtmfp_chunks.specs.Chunk.{Chunk, Redirect, kind_of, parts_of}

abbrev pub field_bytes : Field → List ℕ
field_bytes (Counted bytes) = vlu (length bytes) ++ bytes
field_bytes (Number number) = vlu number
field_bytes (SessionId id) = to_be_bytes w32 id
field_bytes (More more) = (if more then 128 else 0) ∷ []
field_bytes (OneAddress address) = address_bytes address

abbrev pub parts_bytes : Parts → List ℕ
parts_bytes (Then first others) = field_bytes first ++ parts_bytes others
parts_bytes (Rest bytes) = bytes
parts_bytes (AddressList list) = list
parts_bytes Ignored = []

abbrev pub payload_bytes : Chunk → List ℕ
payload_bytes chunk = parts_bytes (parts_of chunk)

-- the type, the length of the payload, and the payload
abbrev pub chunk_bytes : Chunk → List ℕ
chunk_bytes chunk = kind_of chunk ∷ to_be_bytes w16 (length (payload_bytes chunk))
    ++ payload_bytes chunk

-- the list of a redirect is whole addresses
abbrev pub IsWritable : Chunk → Type 0
IsWritable (Redirect tag list) = AreAddresses list
IsWritable chunk = Unit {0}

-- ---- what each value of a field's type is

abbrev pub FieldFits : Field → Type 0
FieldFits (Counted bytes) = length bytes < 2 ^ 64
FieldFits (Number number) = number < 2 ^ 64
FieldFits (SessionId id) = id < 2 ^ 32
FieldFits (More more) = Unit {0}
FieldFits (OneAddress address) = IsAddress address

abbrev pub PartsFit : Parts → Type 0
PartsFit (Then first others) = FieldFits first × PartsFit others
PartsFit (Rest bytes) = Unit {0}
PartsFit (AddressList list) = AreAddresses list
PartsFit Ignored = Unit {0}
