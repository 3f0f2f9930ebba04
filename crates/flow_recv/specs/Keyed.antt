-- The runs by the number that each begins with.
use Rattle.std.specs.Prelude.{ℕ, ◌≡◌, ◌==◌, ◌-◌, ◌+◌, ◌<◌, ◌≤◌, nat_lt, nat_le, ◌&&◌, ◌||◌, not}
use Rattle.std.specs.Prelude.{Bool, true, false, if◌then◌else◌, List, [], ◌∷◌, ◌++◌, Option, Some}
use Rattle.std.specs.Prelude.{None, IsSome, length, min, max}
use Rattle.std.specs.Option.{IsSomeAnd}
use Rattle.std.specs.Map.{keys_of, values_of}
use Rattle.std.specs.Ordering.{nat_cmp}
use Rattle.std.specs.List.Sorted.{IsStrictlySortedBy}
use Rattle.flow_recv.specs.declared.spans.Span.{Span}
use Rattle.rtmfp_data_chunks.specs.declared.user_data.Part.TheVariants.{Whole}
use Rattle.rtmfp_data_chunks.specs.Runs.{Run, single, is_whole, fits}
use Rattle.rtmfp_data_chunks.specs.HandsOver.{IsIn}
use Rattle.flow_recv.specs.Receiver.{is_alive, hands}

-- the run that begins with a number
abbrev pub run_at : ℕ → List Run → Option Run
run_at n [] = None
run_at n (y ∷ later) = if y.first == n then Some y else run_at n later

-- without the run that begins with a number
abbrev pub without_run : ℕ → List Run → List Run
without_run n [] = []
without_run n (y ∷ later) = if y.first == n then later else y ∷ without_run n later

-- with one more run, before those that begin above it
abbrev pub with_run : Run → List Run → List Run
with_run x [] = x ∷ []
with_run x (y ∷ later) = if nat_lt x.first y.first then x ∷ y ∷ later else y ∷ with_run x later

-- with the run that begins with a number changed
abbrev pub changed_run : (Run → Run) → ℕ → List Run → List Run
changed_run f n [] = []
changed_run f n (y ∷ later) = if y.first == n then f y ∷ later else y ∷ changed_run f n later

-- the same of the entries of a map
abbrev pub changed_entry : (Run → Run) → ℕ → List (ℕ × Run) → List (ℕ × Run)
changed_entry f n [] = []
changed_entry f n (e ∷ later) = if e.0 == n then (e.0, f e.1) ∷ later
    else e ∷ changed_entry f n later

-- a fragment without bytes in its place
abbrev pub emptied : Run → Run
emptied y = single y.first Whole []

-- two runs and the bytes between them, joined
abbrev pub over : Run → List ℕ → Run → Run
over y bytes z = record {
  first = y.first;
  last = z.last;
  front = y.front;
  rear = z.rear;
  bytes = (y.bytes ++ bytes) ++ z.bytes;
}

abbrev pub rear_of : Option Run → Bool
rear_of None = false
rear_of (Some y) = y.rear

abbrev pub front_of : Option Run → Bool
front_of None = false
front_of (Some y) = y.front

-- each with the number that it begins with
abbrev pub keyed : List Run → List (ℕ × Run)
keyed [] = []
keyed (y ∷ later) = (y.first, y) ∷ keyed later

-- the numbers that the whole runs begin with
abbrev pub whole_firsts : List Run → List ℕ
whole_firsts [] = []
whole_firsts (y ∷ later) = if is_whole y then y.first ∷ whole_firsts later else whole_firsts later

abbrev pub AllWhole : List Run → Type 0
AllWhole [] = Unit {0}
AllWhole (y ∷ later) = (is_whole y ≡ true) × AllWhole later

-- the entries rise and have the numbers that their runs begin with, and the keys are those of the
-- whole runs, where these are indexed
pub record IsKept (indexed : Bool) (entries : List (ℕ × Run)) (keys : List ℕ) : Type 0 where
  pub order : IsStrictlySortedBy nat_cmp (keys_of entries)
  pub keyed : entries ≡ keyed (values_of entries)
  pub whole : indexed ≡ true → keys ≡ whole_firsts (values_of entries)

-- the first of those that begin at a number or above it
abbrev pub IsFirstFrom : ℕ → List Run → Option ℕ → Type 0
IsFirstFrom n runs None = (q : ℕ) → n ≤ q → run_at q runs ≡ None
IsFirstFrom n runs (Some g) = (n ≤ g) × IsSome (run_at g runs) ×
    ((q : ℕ) → n ≤ q → IsSome (run_at q runs) → g ≤ q)

-- the last of those that begin below a number
abbrev pub IsLastBelow : ℕ → List Run → Option ℕ → Type 0
IsLastBelow n runs None = (q : ℕ) → q < n → run_at q runs ≡ None
IsLastBelow n runs (Some g) = (g < n) × IsSome (run_at g runs) ×
    ((q : ℕ) → q < n → IsSome (run_at q runs) → q ≤ g)

-- no run has a number
abbrev pub IsFree : ℕ → List Run → Type 0
IsFree n [] = Unit {0}
IsFree n (y ∷ later) = (y.first ≤ n → n ≤ y.last → ⊥) × IsFree n later

-- the number that the run begins with which a fragment follows and fits, where one is such
abbrev pub IsFollowed : Run → List Run → Option ℕ → Type 0
IsFollowed x runs None = (y : Run) → IsIn y runs → fits y x ≡ false
IsFollowed x runs (Some f) = IsSomeAnd (run_at f runs) (λ y. fits y x ≡ true)

-- the same of the run that follows it
abbrev pub IsFollowing : Run → List Run → Option ℕ → Type 0
IsFollowing x runs None = (y : Run) → IsIn y runs → fits x y ≡ false
IsFollowing x runs (Some f) = IsSomeAnd (run_at f runs) (λ y. fits x y ≡ true)

-- it has one of these numbers, or lies directly before or after one
abbrev pub is_between : ℕ → ℕ → Run → Bool
is_between low high y = nat_le (y.first - 1) high && nat_le low (y.last + 1)

-- it isn't near these numbers, or is alive
abbrev pub stays : List Span → ℕ → ℕ → Run → Bool
stays spans low high y = not (is_between low high y) || is_alive spans y

abbrev pub stays_at : List Span → ℕ → ℕ → Option Run → Bool
stays_at spans low high None = true
stays_at spans low high (Some y) = stays spans low high y

-- the bytes of a run that doesn't stay
abbrev pub dead_bytes : (Run → Bool) → Option Run → ℕ
dead_bytes test None = 0
dead_bytes test (Some y) = if test y then 0 else length y.bytes

-- a walk goes on at a number
abbrev pub is_left : Option ℕ → Run → Bool
is_left None y = false
is_left (Some f) y = nat_le f y.first

-- a walk that begins so passes no run that has one of the numbers from one on or lies directly
-- before it
abbrev pub Reaches : ℕ → List Run → Option ℕ → Type 0
Reaches low runs next = (y : Run) → IsIn y runs → is_left next y ≡ false → y.last + 1 < low

abbrev pub followed_at : Run → Option Run → Bool
followed_at x None = false
followed_at x (Some y) = fits y x

abbrev pub following_at : Run → Option Run → Bool
following_at x None = false
following_at x (Some y) = fits x y

abbrev pub ready_at : ℕ → Option Run → Bool
ready_at through None = false
ready_at through (Some y) = hands false through y

-- the newest run, where there is one, among the older ones
abbrev pub with_newest : Option Run → List Run → List Run
with_newest None runs = runs
with_newest (Some x) runs = with_run x runs

-- no older one begins with its number
abbrev pub IsNewest : Option Run → List Run → Type 0
IsNewest None runs = Unit {0}
IsNewest (Some x) runs = run_at x.first runs ≡ None

abbrev pub begins : ℕ → Option Run → Bool
begins n None = false
begins n (Some y) = y.first == n

-- the lower and the higher one of two numbers
abbrev pub least : ℕ → Option ℕ → ℕ
least n None = n
least n (Some g) = min n g

abbrev pub most : ℕ → Option ℕ → ℕ
most n None = n
most n (Some g) = max n g

-- a number is below another one, or there is no other one
abbrev pub is_before : ℕ → Option ℕ → Bool
is_before n None = true
is_before n (Some g) = nat_lt n g

-- it is whole and begins before a number
abbrev pub is_foremost : Option ℕ → Option Run → Bool
is_foremost other None = false
is_foremost other (Some y) = is_whole y && is_before y.first other
