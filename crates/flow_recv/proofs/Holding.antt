-- The bytes that runs hold.
use Rattle.std.proofs.Common.{ℕ, ◌≤◌, cond, Bool, true, false, List, [], ◌∷◌, length, arith}
use Rattle.std.specs.List.{filter, sum_by}
use Rattle.std.proofs.lemmas.List.Sums.{sum_by-cons}
use Rattle.flow_recv.specs.declared.spans.Span.{Span}
use Rattle.rtmfp_data_chunks.specs.Runs.{Run}
use Rattle.flow_recv.specs.Receiver.{living, held_in, is_alive, without_first}

filter_le_if : {X : Type 0} (f : X → ℕ) (x : X) (ys xs : List X) (b : Bool) → sum_by f ys ≤ sum_by f xs → sum_by f (cond b (x ∷ ys) ys) ≤ sum_by f (x ∷ xs)
filter_le_if f x ys xs true h =
    let k : sum_by f (x ∷ ys) ≤ sum_by f (x ∷ xs) = omega (arith, h, sum_by-cons f x ys, sum_by-cons f x xs) in k
filter_le_if f x ys xs false h =
    let k : sum_by f ys ≤ sum_by f (x ∷ xs) = omega (arith, h, sum_by-cons f x xs) in k

filter_le : {X : Type 0} (f : X → ℕ) (p : X → Bool) (xs : List X) → sum_by f (filter p xs) ≤ sum_by f xs
filter_le f p [] = omega arith
filter_le f p (x ∷ xs) = filter_le_if f x (filter p xs) xs (p x) (filter_le f p xs)

pub living_le : (spans : List Span) (runs : List Run) → held_in (living spans runs) ≤ held_in runs
living_le spans runs = filter_le (λ (y : Run). length y.bytes) (is_alive spans) runs

without_if : (y : Run) (later zs : List Run) (t : Bool) → held_in zs ≤ held_in later → held_in (cond t later (y ∷ zs)) ≤ held_in (y ∷ later)
without_if y later zs true h = let e : held_in later ≤ held_in (y ∷ later) = omega (arith, sum_by-cons (λ (z : Run). length z.bytes) y later) in e
without_if y later zs false h = let e : held_in (y ∷ zs) ≤ held_in (y ∷ later) = omega (arith, h, sum_by-cons (λ (z : Run). length z.bytes) y later, sum_by-cons (λ (z : Run). length z.bytes) y zs) in e

pub without_le : (test : Run → Bool) (runs : List Run) → held_in (without_first test runs) ≤ held_in runs
without_le test [] = omega arith
without_le test (y ∷ later) = without_if y later (without_first test later) (test y) (without_le test later)
