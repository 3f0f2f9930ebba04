-- How many runs there are.
use Rattle.std.proofs.Common.{◌≡◌, ◌+◌, ◌≤◌, nat_lt, cond, not, Bool, true, false, ◌&&◌, List, [], ◌∷◌, length, arith}
use Rattle.flow_recv.specs.declared.spans.Span.{Span}
use Rattle.rtmfp_data_chunks.specs.Runs.{Chunk, Run, fits, joined, single}
use Rattle.flow_recv.specs.Receiver.{Receiver, add_run, join_before, join_next, living, is_alive, holds, runs_after, spans_after}
use Rattle.flow_recv.specs.Keyed.{with_run}

-- one more with one more
pub count_with : (x : Run) (runs : List Run) → length (with_run x runs) ≡ length runs + 1
count_with x [] = omega arith
count_with x (y ∷ later) = by (nat_lt x.first y.first) (count_with x later)
  where
    by : (t : Bool) → length (with_run x later) ≡ length later + 1 → length (cond t (x ∷ y ∷ later) (y ∷ with_run x later)) ≡ length (y ∷ later) + 1
    by true ih = omega arith
    by false ih = omega (arith, ih)

-- a fragment makes one more at most

next_few : (x : Run) (runs : List Run) → length (join_next x runs) ≤ length runs + 1
next_few x [] = omega arith
next_few x (y ∷ later) = by (fits x y)
  where
    by : (t : Bool) → length (cond t (joined x y ∷ later) (x ∷ y ∷ later)) ≤ length (y ∷ later) + 1
    by true = omega arith
    by false = omega arith

before_few : (x : Run) (runs : List Run) → length (join_before x runs) ≤ length runs + 1
before_few x [] = omega arith
before_few x (y ∷ later) = by (fits y x) (next_few (joined y x) later) (next_few x (y ∷ later))
  where
    by : (t : Bool) → length (join_next (joined y x) later) ≤ length later + 1 → length (join_next x (y ∷ later)) ≤ length (y ∷ later) + 1
        → length (cond t (join_next (joined y x) later) (join_next x (y ∷ later))) ≤ length (y ∷ later) + 1
    by true le other = omega (arith, le)
    by false le other = other

add_few : (x : Run) (runs : List Run) → length (add_run x runs) ≤ length runs + 1
add_few x [] = omega arith
add_few x (y ∷ later) = by (not (fits y x) && nat_lt y.last x.first) (add_few x later) (before_few x (y ∷ later))
  where
    by : (t : Bool) → length (add_run x later) ≤ length later + 1 → length (join_before x (y ∷ later)) ≤ length (y ∷ later) + 1
        → length (cond t (y ∷ add_run x later) (join_before x (y ∷ later))) ≤ length (y ∷ later) + 1
    by true le other = omega (arith, le)
    by false le other = other

living_few : (spans : List Span) (runs : List Run) → length (living spans runs) ≤ length runs
living_few spans [] = omega arith
living_few spans (y ∷ later) = by (is_alive spans y) (living_few spans later)
  where
    by : (t : Bool) → length (living spans later) ≤ length later → length (cond t (y ∷ living spans later) (living spans later)) ≤ length (y ∷ later)
    by true le = omega (arith, le)
    by false le = omega (arith, le)

-- and so does a chunk
pub runs_few : (r : Receiver) (c : Chunk) → length (runs_after r c) ≤ length r.runs + 1
runs_few r c =
    let le = living_few (spans_after r c) (cond (holds r c) (add_run (single c.seq c.part c.bytes) r.runs) r.runs) in
    omega (arith, le, by (holds r c) (add_few (single c.seq c.part c.bytes) r.runs))
  where
    by : (t : Bool) → length (add_run (single c.seq c.part c.bytes) r.runs) ≤ length r.runs + 1
        → length (cond t (add_run (single c.seq c.part c.bytes) r.runs) r.runs) ≤ length r.runs + 1
    by true le = le
    by false le = omega arith
