-- Fields from left to right. Where one can't be read, the number of bytes from there to the end is
-- told.
use Rattle.std.specs.Borrow.{Bor}
use Rattle.std.specs.Prelude.{◌≡◌, ℕ, ◌-◌, ◌==◌, zero, suc, Bool, List, [], ◌∷◌, length, take, drop, Option, Some, None, Result, Ok, Err, nat_lt, nat_le, if◌then◌else◌}
use Rattle.std.specs.Int.{w32, from_be_bytes}
use Rattle.rtmfp_vlu.specs.declared.reading.VluFault.{VluFault}
use Rattle.rtmfp_vlu.specs.Reading.{number_at}
use Rattle.rtmfp_forms.specs.declared.fault.FormFault.{FormFault}
use Rattle.rtmfp_forms.specs.Address.{AddressParts}
use Rattle.rtmfp_forms.specs.AddressReading.{address_at}
use Rattle.rtmfp_forms.specs.OptionReading.{◌>>=◌}
use Rattle.rtmfp_chunks.specs.declared.view.ChunkView.{ChunkView}
use Rattle.rtmfp_chunks.specs.Fields.{Field, Counted, Number, SessionId, More, OneAddress, Parts, Then, Rest, AddressList, Ignored}
use Rattle.rtmfp_chunks.specs.Fields.{Form, CountedForm, NumberForm, SessionIdForm, MoreForm, AddressForm, Row, ThenRow, RestRow, AddressesRow, IgnoredRow}
use Rattle.rtmfp_chunks.specs.declared.reading.ChunkFault.{ChunkFault}
use Rattle.rtmfp_chunks.specs.declared.reading.ChunkFault.TheVariants.{Unknown, Malformed}
use Rattle.rtmfp_chunks.specs.Chunk.{Chunk, IHello, FIHello, RHello, Redirect, CookieChange, IIKeying, RIKeying, Ping, PingReply, Close, CloseAck, Fragment, chunk_of, kind_of, parts_of, row_of}

-- what a function returned, seen by view, is what reading gives
abbrev pub Shows : {X Y : Type 0} → (X → Y) → Result X ℕ → Result Y ℕ → Type 0
Shows view (Ok x) read = read ≡ Ok (view x)
Shows view (Err left) read = read ≡ Err left

abbrev pub split_number : List ℕ → Result (ℕ × ℕ) VluFault → Result (ℕ × List ℕ) ℕ
split_number b (Ok found) = Ok (found.0, drop found.1 b)
split_number b (Err fault) = Err (length b)

-- a VLU in front, and what follows it
unfoldable pub number_then : List ℕ → Result (ℕ × List ℕ) ℕ
number_then b = split_number b (number_at b)

-- so many bytes, and what follows them
unfoldable pub bytes_then : ℕ → List ℕ → Result (List ℕ × List ℕ) ℕ
bytes_then size b = if nat_lt (length b) size then Err (length b) else Ok (take size b, drop size b)

unfoldable pub counted_then : List ℕ → Result (List ℕ × List ℕ) ℕ
counted_then b = do
  size ← number_then b
  bytes_then size.0 size.1

unfoldable pub id_then : List ℕ → Result (ℕ × List ℕ) ℕ
id_then b = if nat_lt (length b) 4 then Err (length b)
    else Ok (from_be_bytes w32 (take 4 b), drop 4 b)

unfoldable pub more_then : List ℕ → Result (Bool × List ℕ) ℕ
more_then [] = Err 0
more_then (flags ∷ rest) = Ok (nat_le 128 flags, rest)

abbrev pub split_address : List ℕ → Result (AddressParts × ℕ) FormFault →
    Result (AddressParts × List ℕ) ℕ
split_address b (Ok found) = Ok (found.0, drop found.1 b)
split_address b (Err fault) = Err (length b)

unfoldable pub address_then : List ℕ → Result (AddressParts × List ℕ) ℕ
address_then b = split_address b (address_at b)

-- addresses up to the end, in so many steps
unfoldable pub addresses_within : ℕ → List ℕ → Result (List AddressParts) ℕ
addresses_within zero b = Ok []
addresses_within (suc steps) [] = Ok []
addresses_within (suc steps) (x ∷ xs) = do
  first ← address_then (x ∷ xs)
  others ← addresses_within steps first.1
  Ok (first.0 ∷ others)

-- each address has at least a byte
unfoldable pub addresses_at : List ℕ → Result (List AddressParts) ℕ
addresses_at b = addresses_within (suc (length b)) b

-- the bytes of addresses up to the end
unfoldable pub list_at : List ℕ → Result (List ℕ) ℕ
list_at b = addresses_at b >>= λ addresses. Ok b

abbrev pub found_or_none : Result (List AddressParts) ℕ → List AddressParts
found_or_none (Ok addresses) = addresses
found_or_none (Err left) = []

-- the whole addresses that the bytes begin with, at most so many
unfoldable pub first_addresses : ℕ → List ℕ → List AddressParts
first_addresses zero b = []
first_addresses (suc most) b = found_or_none
    (address_then b >>= λ first. Ok (first.0 ∷ first_addresses most first.1))

-- the whole addresses that the bytes begin with
unfoldable pub addresses_in : List ℕ → List AddressParts
addresses_in b = first_addresses (length b) b

-- a field of a form, and what follows it
unfoldable pub field_then : Form → List ℕ → Result (Field × List ℕ) ℕ
field_then CountedForm b = counted_then b >>= λ found. Ok (Counted found.0, found.1)
field_then NumberForm b = number_then b >>= λ found. Ok (Number found.0, found.1)
field_then SessionIdForm b = id_then b >>= λ found. Ok (SessionId found.0, found.1)
field_then MoreForm b = more_then b >>= λ found. Ok (More found.0, found.1)
field_then AddressForm b = address_then b >>= λ found. Ok (OneAddress found.0, found.1)

unfoldable pub row_at : Row → List ℕ → Result Parts ℕ
row_at (ThenRow first others) b = do
  field ← field_then first b
  parts ← row_at others field.1
  Ok (Then field.0 parts)
row_at RestRow b = Ok (Rest b)
row_at AddressesRow b = list_at b >>= λ list. Ok (AddressList list)
row_at IgnoredRow b = Ok Ignored

abbrev pub typed : ℕ → Result Parts ℕ → Result (ℕ × Parts) ℕ
typed kind (Ok parts) = Ok (kind, parts)
typed kind (Err left) = Err left

abbrev pub typed_row : ℕ → List ℕ → Option Row → Option (Result (ℕ × Parts) ℕ)
typed_row kind b None = None
typed_row kind b (Some row) = Some (typed kind (row_at row b))

-- the type and the fields of a payload of this type; none where no chunk has it
unfoldable pub chunk_at : ℕ → List ℕ → Option (Result (ℕ × Parts) ℕ)
chunk_at kind b = typed_row kind b (row_of kind)

-- what a reader of payloads returned, in its type and fields
abbrev pub described : Result ChunkView ℕ → Result (ℕ × Parts) ℕ
described (Ok view) = Ok (kind_of (chunk_of view), parts_of (chunk_of view))
described (Err left) = Err left

-- two parts of a list
abbrev pub split_of : Bor (List ℕ) × Bor (List ℕ) → List ℕ × List ℕ
split_of found = (found.0.now, found.1.now)

-- a value, and what follows it
abbrev pub value_of : {X : Type 0} → X × Bor (List ℕ) → X × List ℕ
value_of found = (found.0, found.1.now)

-- ---- all of it as one function

-- the chunk of this type that has these fields
unfoldable pub chunk_with : ℕ → Parts → Option Chunk
chunk_with kind (Then (Counted x) (Rest y)) = if kind == 0x30 then Some (IHello x y)
    else if kind == 0x79 then Some (CookieChange x y) else None
chunk_with kind (Then (Counted epd) (Then (OneAddress reply) (Rest tag))) =
    if kind == 0x0f then Some (FIHello epd reply tag) else None
chunk_with kind (Then (Counted tag) (Then (Counted cookie) (Rest cert))) =
    if kind == 0x70 then Some (RHello tag cookie cert) else None
chunk_with kind (Then (Counted tag) (AddressList list)) =
    if kind == 0x71 then Some (Redirect tag list) else None
chunk_with kind
    (Then (SessionId near) (Then (Counted cookie)
    (Then (Counted cert) (Then (Counted part) (Rest sign))))) =
    if kind == 0x38 then Some (IIKeying near cookie cert part sign) else None
chunk_with kind (Then (SessionId near) (Then (Counted part) (Rest sign))) =
    if kind == 0x78 then Some (RIKeying near part sign) else None
chunk_with kind (Rest bytes) = if kind == 0x01 then Some (Ping bytes)
    else if kind == 0x41 then Some (PingReply bytes) else None
chunk_with kind Ignored = if kind == 0x0c then Some Close else if kind == 0x4c then Some CloseAck
    else None
chunk_with kind (Then (More more) (Then (Number id) (Then (Number number) (Rest bytes)))) =
    if kind == 0x7f then Some (Fragment more id number bytes) else None
chunk_with kind parts = None

abbrev pub known_chunk : ℕ → Option Chunk → Result Chunk ChunkFault
known_chunk kind (Some chunk) = Ok chunk
known_chunk kind None = Err (Unknown kind)

abbrev pub chunk_or_fault : ℕ → List ℕ → Option (Result (ℕ × Parts) ℕ) → Result Chunk ChunkFault
chunk_or_fault kind b (Some (Ok found)) = known_chunk kind (chunk_with found.0 found.1)
chunk_or_fault kind b (Some (Err left)) = Err (Malformed (length b - left))
chunk_or_fault kind b None = Err (Unknown kind)

-- how a payload of this type reads
unfoldable pub chunk_reading : ℕ → List ℕ → Result Chunk ChunkFault
chunk_reading kind b = chunk_or_fault kind b (chunk_at kind b)
