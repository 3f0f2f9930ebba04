-- What a receiver hands over, counts and refuses after any calls, one after another.
use Rattle.std.specs.Prelude.{ℕ, ◌≡◌, ◌+◌, ◌<◌, ◌≤◌, nat_lt, if◌then◌else◌, not, ◌&&◌, ◌||◌, ◌==◌}
use Rattle.std.specs.Prelude.{Bool, true, false, List, [], ◌∷◌, ◌++◌, Option, Some, None, length}
use Rattle.std.specs.Prelude.{slice_get}
use Rattle.std.specs.Option.{option_map}
use Rattle.rtmfp_data_chunks.specs.Fragments.{Message}
use Rattle.rtmfp_data_chunks.specs.HandsOver.{IsIn}
use Rattle.rtmfp_data_chunks.specs.declared.user_data.Part.TheVariants.{Whole}
use Rattle.rtmfp_data_chunks.specs.Runs.{Chunk, Run, is_whole, has_number, highest, missing_of}
use Rattle.rtmfp_data_chunks.specs.Runs.{through_of, runs_of, bytes_held, message_of}
use Rattle.rtmfp_data_chunks.specs.Runs.{handed_in_order}
use Rattle.flow_recv.specs.declared.outcome.FlowRefusal.{FlowRefusal}
use Rattle.flow_recv.specs.declared.outcome.FlowRefusal.TheVariants.{AfterFinal, BeyondBuffer}
use Rattle.flow_recv.specs.Receiver.{next_run, held_in, through_in}
use Rattle.flow_recv.specs.Outcome.{refusal}
use Rattle.flow_recv.specs.Reached.{Receiving}
use Rattle.flow_exchange.specs.Stands.{last_of}

-- what was handed over is the beginning of what is to be, and the next message is the one that
-- follows
pub record HandsInOrder (w : Receiving) : Type 0 where
  pub rest : List Message
  pub begins : w.handed ++ rest ≡ handed_in_order w.chunks
  pub next : option_map message_of (next_run w.receiver)
      ≡ slice_get (handed_in_order w.chunks) (length w.handed)

-- where no message is next, in arrival order each whole run was handed over
abbrev pub AllHanded : Receiving → Type 0
AllHanded w = next_run w.receiver ≡ None → (y : Run) → IsIn y (runs_of w.chunks) →
    is_whole y ≡ true → has_number y.first w.handed ≡ true

-- the lowest whole run that wasn't handed over
abbrev pub lowest_whole : List Message → List Run → Option Run
lowest_whole handed [] = None
lowest_whole handed (y ∷ later) = if is_whole y && not (has_number y.first handed) then Some y
    else lowest_whole handed later

-- in arrival order the next message is the lowest whole run that wasn't handed over
abbrev pub HandsLowest : Receiving → Type 0
HandsLowest w = next_run w.receiver ≡ lowest_whole w.handed (runs_of w.chunks)

-- the bytes that are held, and the greatest number at or below which none is missing
pub record Counts (w : Receiving) : Type 0 where
  pub bytes : held_in w.receiver.runs ≡ bytes_held w.chunks w.handed
  pub through : through_in w.receiver ≡ through_of w.chunks

-- ---- the refusals of a chunk, by the chunks that were taken and the messages that were handed
-- over

-- a known last number is passed, or the mark stands at another one
abbrev pub passes_last : Option ℕ → ℕ → Chunk → Option ℕ
passes_last (Some n) top c = if nat_lt n c.seq || (c.last && not (c.seq == n)) then Some n else None
passes_last None top c = if c.last && nat_lt c.seq top then Some top else None

-- the chunk's forward number, taken alone
abbrev pub forward_alone : Chunk → Chunk
forward_alone c = record {
  part = Whole;
  abandon = true;
  last = false;
  seq = c.forward;
  forward = c.forward;
  bytes = [];
}

-- the bytes of a chunk that count
abbrev pub own_bytes : Chunk → ℕ
own_bytes c = if c.abandon then 0 else length c.bytes

-- the lowest missing number may fill 3,145,728 bytes, one above it 2,097,152, and it is at most
-- 65,536 above it
abbrev pub is_full : ℕ → ℕ → Chunk → Bool
is_full through held c =
    if c.seq == through + 1 then nat_lt 3145728 (held + own_bytes c)
    else nat_lt 2097152 (held + own_bytes c) || nat_lt (through + 1 + 65536) c.seq

-- its number is missing and above its forward number, and the buffer is full, all counted as if the
-- forward number were taken
abbrev pub full_by : List Chunk → List Message → Chunk → Option ℕ
full_by chunks handed c =
    let given = forward_alone c ∷ chunks in
    if missing_of chunks c.seq && nat_lt c.forward c.seq
    && is_full (through_of given) (bytes_held given handed) c then Some (bytes_held given handed)
    else None

abbrev pub refusal_with : Option ℕ → Option ℕ → Option FlowRefusal
refusal_with (Some n) full = Some (AfterFinal n)
refusal_with None (Some held) = Some (BeyondBuffer held)
refusal_with None None = None

abbrev pub refusal_by : List Chunk → List Message → Chunk → Option FlowRefusal
refusal_by chunks handed c = refusal_with (passes_last (last_of chunks) (highest chunks) c)
    (full_by chunks handed c)

abbrev pub RefusesBy : Receiving → Type 0
RefusesBy w = (c : Chunk) → c.forward ≤ c.seq → (c.abandon ≡ false → c.forward < c.seq) →
    refusal w.receiver c ≡ refusal_by w.chunks w.handed c
