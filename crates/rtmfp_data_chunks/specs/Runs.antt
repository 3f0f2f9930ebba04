-- What becomes of numbers by the data chunks that a receiver takes, and which messages it hands
-- over.
use Rattle.std.specs.Prelude.{ℕ, ◌+◌, ◌-◌, ◌==◌, if◌then◌else◌, nat_le, Bool, true, false, not, map, List, [], ◌∷◌, ◌++◌, Option, Some, None, length}
use Prim.Native.Nat.{zero, suc}
use Rattle.std.specs.Prelude.{max}
use Rattle.std.specs.List.{filter, sum_by}
use Rattle.rtmfp_data_chunks.specs.declared.user_data.Part.{Part}
use Rattle.rtmfp_data_chunks.specs.declared.user_data.Part.TheVariants.{Whole, Begin, End, Middle}
use Rattle.rtmfp_data_chunks.specs.Fragments.{Message}

-- a data chunk: its number, and the forward number at or below which nothing more is sent
pub record Chunk : Type 0 where
  pub part : Part
  pub abandon : Bool
  pub last : Bool
  pub seq : ℕ
  pub forward : ℕ
  pub bytes : List ℕ

pub data Number : Type 0 where
  Missing : Number
  Held : (part : Part) → (bytes : List ℕ) → Number
  GivenUp : Number

abbrev pub is_missing : Number → Bool
is_missing Missing = true
is_missing (Held p b) = false
is_missing GivenUp = false

-- what a chunk makes of a number that is missing. Without abandon it holds its own number, with
-- abandon it gives it up; and it gives up all at or below its forward number
abbrev pub changed_by : Chunk → ℕ → Number
changed_by c n =
    if n == c.seq then (if c.abandon then GivenUp else Held c.part c.bytes)
    else if nat_le n c.forward then GivenUp else Missing

-- the first change of a number is final
abbrev pub first_change : Number → Number → Number
first_change Missing later = later
first_change (Held p b) later = Held p b
first_change GivenUp later = GivenUp

-- number n after these chunks, the newest first. Number 0 counts as given up
unfoldable pub number_of : List Chunk → ℕ → Number
number_of [] n = if n == 0 then GivenUp else Missing
number_of (c ∷ earlier) n = first_change (number_of earlier n) (changed_by c n)

-- held numbers one after another that fit, their bytes joined. front: it begins with a begin or a
-- whole; rear: it ends with an end or a whole
pub record Run : Type 0 where
  pub first : ℕ
  pub last : ℕ
  pub front : Bool
  pub rear : Bool
  pub bytes : List ℕ

abbrev pub has_front : Part → Bool
has_front Whole = true
has_front Begin = true
has_front End = false
has_front Middle = false

abbrev pub has_rear : Part → Bool
has_rear Whole = true
has_rear Begin = false
has_rear End = true
has_rear Middle = false

abbrev pub single : ℕ → Part → List ℕ → Run
single n p b = record { first = n; last = n; front = has_front p; rear = has_rear p; bytes = b }

-- the second follows the first and fits: the first lacks its rear and the second its front
abbrev pub fits : Run → Run → Bool
fits a b = if a.last + 1 == b.first then (if a.rear then false else if b.front then false else true)
    else false

abbrev pub joined : Run → Run → Run
joined a b = record {
  first = a.first;
  last = b.last;
  front = a.front;
  rear = b.rear;
  bytes = a.bytes ++ b.bytes;
}

-- the longest run that ends at number n, or goes on there
abbrev pub run_with : Number → ℕ → Option Run → Option Run
run_with Missing n before = None
run_with GivenUp n before = None
run_with (Held p b) n None = Some (single n p b)
run_with (Held p b) n (Some y) = if fits y (single n p b) then Some (joined y (single n p b))
    else Some (single n p b)

unfoldable pub run_up_to : (ℕ → Number) → ℕ → Option Run
run_up_to s zero = None
run_up_to s (suc n) = run_with (s (suc n)) (suc n) (run_up_to s n)

-- the number after a run is held and fits it, so that the run goes on
abbrev pub goes_on : Run → Number → Bool
goes_on y Missing = false
goes_on y GivenUp = false
goes_on y (Held p b) = fits y (single (y.last + 1) p b)

-- the run that ends at a number and does not go on, by the number after it
abbrev pub run_ending : Option Run → Number → List Run
run_ending None next = []
run_ending (Some y) next = if goes_on y next then [] else y ∷ []

-- the runs that end at or below n, by rising number
unfoldable pub runs_to : (ℕ → Number) → ℕ → List Run
runs_to s zero = []
runs_to s (suc n) = runs_to s n ++ run_ending (run_up_to s (suc n)) (s (suc (suc n)))

-- one whole fragment, or from a begin to an end
abbrev pub is_whole : Run → Bool
is_whole y = if y.front then y.rear else false

-- it lacks its front and the number before it isn't missing, or lacks its rear and the number after
-- it isn't missing
abbrev pub is_dead : (ℕ → Bool) → Run → Bool
is_dead missing y =
    if y.front then (if y.rear then false else not (missing (y.last + 1)))
    else if missing (y.first - 1) then (if y.rear then false else not (missing (y.last + 1)))
    else true

abbrev pub message_of : Run → Message
message_of y = record { number = y.first; bytes = y.bytes }

-- the highest number of a taken chunk
abbrev pub highest : List Chunk → ℕ
highest [] = 0
highest (c ∷ earlier) = max c.seq (highest earlier)

-- t is the greatest number up to n at or below which none is missing. This is the one up to n + 1,
-- where n + 1 is so
abbrev pub through_with : Number → ℕ → ℕ → ℕ
through_with Missing n t = t
through_with (Held p b) n t = if t == n then n + 1 else t
through_with GivenUp n t = if t == n then n + 1 else t

unfoldable pub through : (ℕ → Number) → ℕ → ℕ
through s zero = 0
through s (suc n) = through_with (s (suc n)) n (through s n)

-- the greatest number at or below which none is missing
abbrev pub through_of : List Chunk → ℕ
through_of taken = through (number_of taken) (highest taken)

-- whether a number is missing after these chunks
abbrev pub missing_of : List Chunk → ℕ → Bool
missing_of taken n = is_missing (number_of taken n)

-- all runs, by rising number. Above the highest taken number all is missing
abbrev pub runs_of : List Chunk → List Run
runs_of taken = runs_to (number_of taken) (highest taken)

-- a whole run below which no number is missing
abbrev pub is_ready : ℕ → Run → Bool
is_ready through y = if is_whole y then nat_le y.first through else false

-- in queueing order: the whole runs below which no number is missing, by rising number
abbrev pub handed_in_order : List Chunk → List Message
handed_in_order taken = map message_of (filter (is_ready (through_of taken)) (runs_of taken))

-- whether one of these messages has that number
abbrev pub has_number : ℕ → List Message → Bool
has_number n [] = false
has_number n (m ∷ ms) = if m.number == n then true else has_number n ms

-- a run that isn't dead and hasn't been handed over
abbrev pub is_kept : List Chunk → List Message → Run → Bool
is_kept taken handed y = if is_dead (missing_of taken) y then false
    else not (has_number y.first handed)

-- the bytes held: those of the runs that aren't dead and haven't been handed over
abbrev pub bytes_held : List Chunk → List Message → ℕ
bytes_held taken handed = sum_by (λ y. length y.bytes)
    (filter (is_kept taken handed) (runs_of taken))
