-- How a payload reads, as one function (`data_reading`): field by field from left to right, with
-- the first fault that is met.
use Rattle.std.specs.Prelude.{◌≡◌, ℕ, zero, suc, ◌+◌, ◌-◌, ◌/◌, ◌%◌, ◌^◌, ◌==◌, if◌then◌else◌, nat_lt, not, min, Bool, true, false, List, [], ◌∷◌, length, drop, get_or, Option, Some, None, Result, Ok, Err}
use Rattle.std.specs.Option.{option_map}
use Rattle.rtmfp_vlu.specs.declared.reading.VluFault.{VluFault}
use Rattle.rtmfp_vlu.specs.Reading.{number_at}
use Rattle.rtmfp_forms.specs.declared.fault.FormFault.{FormFault}
use Rattle.rtmfp_forms.specs.Options.{OptionParts}
use Rattle.rtmfp_forms.specs.OptionReading.{◌>>=◌, options_then}
use Rattle.rtmfp_data_chunks.specs.declared.user_data.Part.{Part}
use Rattle.rtmfp_data_chunks.specs.declared.user_data.Part.TheVariants.{Whole, Begin, End, Middle}
use Rattle.rtmfp_data_chunks.specs.declared.user_data.Numbers.{Numbers}
use Rattle.rtmfp_data_chunks.specs.declared.view.DataFault.{DataFault}
use Rattle.rtmfp_data_chunks.specs.declared.view.DataFault.TheVariants.{Unknown, Malformed, BadOffset}
use Rattle.rtmfp_data_chunks.specs.Chunk.{UserParts, DataChunk, Data, Next, AckBitmap, AckRanges, Probe, Exception}
use Rattle.rtmfp_data_chunks.specs.Fields.{flag}

-- what a function returned, seen by view, is what reading gives
abbrev pub Shows : {X Y : Type 0} → (X → Y) → Result X DataFault → Result Y DataFault → Type 0
Shows view (Ok x) read = read ≡ Ok (view x)
Shows view (Err fault) read = read ≡ Err fault

-- ---- fields, in a payload of so many bytes of which these are left

abbrev pub read_at : ℕ → List ℕ → Result (ℕ × ℕ) VluFault → Result (ℕ × List ℕ) DataFault
read_at at b (Ok found) = Ok (found.0, drop found.1 b)
read_at at b (Err fault) = Err (Malformed at)

-- a number, and the bytes after it
unfoldable pub number_then : ℕ → List ℕ → Result (ℕ × List ℕ) DataFault
number_then size b = read_at (size - length b) b (number_at b)

unfoldable pub numbers_then : ℕ → ℕ → List ℕ → Result (List ℕ × List ℕ) DataFault
numbers_then zero size b = Ok ([], b)
numbers_then (suc count) size b = do
  first ← number_then size b
  others ← numbers_then count size first.1
  Ok (first.0 ∷ others.0, others.1)

abbrev pub listed : ℕ → Result (List OptionParts × List ℕ) FormFault →
    Result (Option (List OptionParts) × List ℕ) DataFault
listed at (Ok found) = Ok (Some found.0, found.1)
listed at (Err fault) = Err (Malformed at)

-- options where they are flagged, and the bytes after them
unfoldable pub options_at : Bool → ℕ → List ℕ →
    Result (Option (List OptionParts) × List ℕ) DataFault
options_at flagged size b = if flagged then listed (size - length b) (options_then b)
    else Ok (None, b)

-- ---- data and next

abbrev pub part_numbered : ℕ → Part
part_numbered n = if n == 0 then Whole else if n == 1 then Begin else if n == 2 then End else Middle

-- what flags tell of the rest of a chunk with these numbers
unfoldable pub user_then : ℕ → Numbers → ℕ → List ℕ → Result UserParts DataFault
user_then flags numbers size b = do
  found ← options_at (flag flags 7) size b
  Ok (record {
    part = part_numbered (flags / 16 % 4);
    abandon = flag flags 1;
    last = flag flags 0;
    flow = numbers.flow;
    seq = numbers.seq;
    forward = numbers.forward;
    options = found.0;
    bytes = found.1;
  })

-- an offset that passes the number, or is 0 without abandon
abbrev pub is_bad_offset : ℕ → ℕ → ℕ → Bool
is_bad_offset flags seq behind = if nat_lt seq behind then true
    else if behind == 0 then not (flag flags 1) else false

unfoldable pub data_then : List ℕ → Result UserParts DataFault
data_then [] = Err (Malformed 0)
data_then (flags ∷ b) = do
  numbers ← numbers_then 2 (suc (length b)) b
  behind ← number_then (suc (length b)) numbers.1
  if is_bad_offset flags (get_or numbers.0 1 0) behind.0
      then Err (BadOffset (suc (length b) - length numbers.1))
      else user_then flags (record {
        flow = get_or numbers.0 0 0;
        seq = get_or numbers.0 1 0;
        forward = get_or numbers.0 1 0 - behind.0;
      }) (suc (length b)) behind.1

abbrev pub next_body : Numbers → List ℕ → Result UserParts DataFault
next_body numbers [] = Err (Malformed 0)
next_body numbers (flags ∷ b) = user_then flags numbers (suc (length b)) b

unfoldable pub next_then : Option Numbers → List ℕ → Result UserParts DataFault
next_then None b = Err (Malformed 0)
next_then (Some before) b =
    if nat_lt (before.seq + 1) (2 ^ 64)
    then next_body (record { flow = before.flow; seq = before.seq + 1; forward = before.forward }) b
    else Err (Malformed 0)

-- ---- acks

-- how many bits speak of numbers of 64 bits
abbrev pub bits_fitting : ℕ → ℕ
bits_fitting upto = 2 ^ 64 - (upto + 2)

-- the first byte that has a set bit from the one of this number on
unfoldable pub passing_byte : ℕ → List ℕ → Option ℕ
passing_byte fitting [] = None
passing_byte fitting (b ∷ bs) = if b / 2 ^ min fitting 8 == 0 then
    option_map suc (passing_byte (fitting - 8) bs) else Some 0

abbrev pub bits_checked : ℕ → DataChunk → Option ℕ → Result DataChunk DataFault
bits_checked at chunk None = Ok chunk
bits_checked at chunk (Some byte) = Err (Malformed (at + byte))

unfoldable pub bitmap_then : List ℕ → Result DataChunk DataFault
bitmap_then b = do
  numbers ← numbers_then 3 (length b) b
  bits_checked (length b - length numbers.1)
      (AckBitmap (get_or numbers.0 0 0) (get_or numbers.0 1 0) (get_or numbers.0 2 0) numbers.1)
      (passing_byte (bits_fitting (get_or numbers.0 2 0)) numbers.1)

-- the last number that pairs tell of above a number, in so many steps
unfoldable pub walk_within : ℕ → ℕ → ℕ → List ℕ → Result ℕ DataFault
walk_within zero size above b = Ok above
walk_within (suc steps) size above [] = Ok above
walk_within (suc steps) size above (b ∷ bs) = do
  numbers ← numbers_then 2 size (b ∷ bs)
  let end = above + get_or numbers.0 0 0 + 2 + get_or numbers.0 1 0 in
      if nat_lt end (2 ^ 64) then walk_within steps size end numbers.1
      else Err (Malformed (size - length (b ∷ bs)))

-- a pair has at least two bytes
unfoldable pub pairs_then : ℕ → ℕ → List ℕ → Result ℕ DataFault
pairs_then size above b = walk_within (suc (length b)) size above b

unfoldable pub ack_ranges_then : List ℕ → Result DataChunk DataFault
ack_ranges_then b = do
  numbers ← numbers_then 3 (length b) b
  end ← pairs_then (length b) (get_or numbers.0 2 0) numbers.1
  Ok (AckRanges (get_or numbers.0 0 0) (get_or numbers.0 1 0) (get_or numbers.0 2 0) numbers.1)

-- ---- numbers alone, behind which bytes say nothing

unfoldable pub probe_then : List ℕ → Result DataChunk DataFault
probe_then b = do
  numbers ← numbers_then 1 (length b) b
  Ok (Probe (get_or numbers.0 0 0))

unfoldable pub exception_then : List ℕ → Result DataChunk DataFault
exception_then b = do
  numbers ← numbers_then 2 (length b) b
  Ok (Exception (get_or numbers.0 0 0) (get_or numbers.0 1 0))

-- ---- all chunks

-- a payload of this type, behind the chunk before it
unfoldable pub data_reading : Option Numbers → ℕ → List ℕ → Result DataChunk DataFault
data_reading last kind b =
    if kind == 0x10 then data_then b >>= (λ user. Ok (Data user))
    else if kind == 0x11 then next_then last b >>= (λ user. Ok (Next user))
    else if kind == 0x50 then bitmap_then b
    else if kind == 0x51 then ack_ranges_then b
    else if kind == 0x18 then probe_then b
    else if kind == 0x5e then exception_then b
    else Err (Unknown kind)
