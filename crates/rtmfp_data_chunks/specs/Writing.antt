-- The one spelling of a chunk that is written: its type, the length of its payload in two bytes,
-- and the payload, with each number and option in its shortest spelling.
use Rattle.std.specs.Prelude.{ℕ, ◌+◌, ◌-◌, ◌*◌, Bool, if◌then◌else◌, List, [], ◌∷◌, ◌++◌, length, Option, Some, None, is_some}
use Rattle.std.specs.Int.{to_be_bytes, w16}
use Rattle.rtmfp_vlu.specs.Vlu.{vlu}
use Rattle.rtmfp_forms.specs.Options.{OptionParts, options_bytes}
use Rattle.rtmfp_data_chunks.specs.declared.user_data.Numbers.{Numbers}
use Rattle.rtmfp_data_chunks.specs.Chunk.{UserParts, DataChunk, Data, Next, AckBitmap, AckRanges, Probe, Exception}
use Rattle.rtmfp_data_chunks.specs.Fields.{part_number}
use Rattle.rtmfp_data_chunks.specs.Acks.{BitsFit, PairsTell}
use Rattle.rtmfp_data_chunks.specs.Spelling.{IsBehind, HasNext, Follows, kind_of}

-- a chunk that can be read
abbrev pub IsDataChunk : DataChunk → Type 0
IsDataChunk (Data user) = IsBehind user.forward user.seq user.abandon
IsDataChunk (Next user) = IsBehind user.forward user.seq user.abandon
IsDataChunk (AckBitmap flow blocks upto bits) = BitsFit upto bits
IsDataChunk (AckRanges flow blocks upto pairs) = (spans : List (ℕ × ℕ)) ×
    PairsTell upto spans pairs
IsDataChunk (Probe flow) = Unit {0}
IsDataChunk (Exception flow code) = Unit {0}

-- a next chunk can stand behind the chunk before it, and any other chunk can
abbrev pub CanFollow : DataChunk → Option Numbers → Type 0
CanFollow (Data user) last = Unit {0}
CanFollow (Next user) last = HasNext last × Follows user last
CanFollow (AckBitmap flow blocks upto bits) last = Unit {0}
CanFollow (AckRanges flow blocks upto pairs) last = Unit {0}
CanFollow (Probe flow) last = Unit {0}
CanFollow (Exception flow code) last = Unit {0}

-- ---- user data

abbrev pub bit : Bool → ℕ
bit set = if set then 1 else 0

abbrev pub flags_of : UserParts → ℕ
flags_of user = 128 * bit (is_some user.options) + 16 * part_number user.part + 2 * bit user.abandon
    + bit user.last

abbrev pub list_bytes : Option (List OptionParts) → List ℕ
list_bytes None = []
list_bytes (Some options) = options_bytes options

-- options where there are some, and the bytes
abbrev pub body_bytes : UserParts → List ℕ
body_bytes user = list_bytes user.options ++ user.bytes

-- ---- all chunks

abbrev pub payload_bytes : DataChunk → List ℕ
payload_bytes (Data user) = flags_of user ∷ (vlu user.flow
    ++ (vlu user.seq ++ (vlu (user.seq - user.forward) ++ body_bytes user)))
payload_bytes (Next user) = flags_of user ∷ body_bytes user
payload_bytes (AckBitmap flow blocks upto bits) = vlu flow ++ (vlu blocks ++ (vlu upto ++ bits))
payload_bytes (AckRanges flow blocks upto pairs) = vlu flow ++ (vlu blocks ++ (vlu upto ++ pairs))
payload_bytes (Probe flow) = vlu flow
payload_bytes (Exception flow code) = vlu flow ++ vlu code

abbrev pub data_bytes : DataChunk → List ℕ
data_bytes chunk = kind_of chunk ∷ (to_be_bytes w16 (length (payload_bytes chunk))
    ++ payload_bytes chunk)
