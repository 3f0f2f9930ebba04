-- The first run that passes a test, and the runs without it.
use Rattle.std.proofs.Common.{◌≡◌, ℕ, ◌+◌, ◌≤◌, cond, Bool, true, false, List, [], ◌∷◌, length, Option, Some, None, refl, ap, sym, ◌∙◌, arith}
use Rattle.std.specs.Option.{unwrap_or, is_some as is_there}
use Rattle.std.proofs.lemmas.Bool.{eq-eqb}
use Rattle.std.proofs.lemmas.List.Sums.{sum_by-cons}
use Rattle.flow_recv.specs.Outcome.{message}
use Rattle.flow_recv.specs.declared.spans.Span.{Span}
use Rattle.rtmfp_data_chunks.specs.Runs.{Run}
use Rattle.flow_recv.specs.Receiver.{Receiver, hands, first_of, without_first, held_in}
use Rattle.flow_recv.specs.Order.{InOrder, AllOpen}
use Rattle.flow_recv.specs.Keyed.{run_at, without_run, IsFirstFrom, ready_at}
use Rattle.flow_recv.proofs.Placing.{in_low, at_in, is_some, has_run}
use Rattle.flow_recv.proofs.Searching.{none_ready}

one_here : (y : Run) (later : List Run) → run_at y.first (y ∷ later) ≡ Some y
one_here y later = ap (λ t. cond t (Some y) (run_at y.first later)) (eq-eqb y.first y.first refl)

-- where no run begins anywhere
pub nothing_ready : (test : Run → Bool) (runs : List Run) → IsFirstFrom 0 runs None → (None ≡ first_of test runs) × (runs ≡ without_first test runs)
nothing_ready test [] b = (refl, refl)
nothing_ready test (y ∷ later) b = let n : Some y ≡ None = sym (one_here y later) ∙ b y.first (omega arith) in absurd cc

head_first : (f : ℕ) (y : Run) (later : List Run) → InOrder 0 (y ∷ later) → IsFirstFrom 0 (y ∷ later) (Some f) → f ≡ y.first
head_first f y later h b =
    let le : f ≤ y.first = b.2 y.first (omega arith) (is_some (run_at y.first (y ∷ later)) y (one_here y later)) in
    let z = has_run (run_at f (y ∷ later)) b.1 in
    let i = at_in f (y ∷ later) z.0 z.1 in
    let g = in_low y.first (y ∷ later) z.0 (omega arith, h.1, h.2) i.0 in
    omega (arith, le, g.0, i.1)

head_at : (f : ℕ) (y : Run) (later : List Run) → f ≡ y.first → run_at f (y ∷ later) ≡ Some y
head_at f y later e = ap (λ n. run_at n (y ∷ later)) e ∙ one_here y later

-- where the first run isn't ready in queueing order
pub not_ready_first : (through f : ℕ) (runs : List Run) → InOrder 0 runs → AllOpen through runs → IsFirstFrom 0 runs (Some f) → ready_at through (run_at f runs) ≡ false
    → (None ≡ first_of (hands false through) runs) × (runs ≡ without_first (hands false through) runs)
not_ready_first through f [] h o b e = (refl, refl)
not_ready_first through f (y ∷ later) h o b e =
    let n : hands false through y ≡ false = sym (ap (ready_at through) (head_at f y later (head_first f y later h b))) ∙ e in
    let r = none_ready through y later h o n in (sym r.0, sym r.1)

-- where it is
pub ready_first : (through f : ℕ) (runs : List Run) → InOrder 0 runs → IsFirstFrom 0 runs (Some f) → ready_at through (run_at f runs) ≡ true
    → (run_at f runs ≡ first_of (hands false through) runs) × (without_run f runs ≡ without_first (hands false through) runs)
ready_first through f [] h b e = (refl, refl)
ready_first through f (y ∷ later) h b e =
    let s = head_first f y later h b in
    let n : hands false through y ≡ true = sym (ap (ready_at through) (head_at f y later s)) ∙ e in (
      head_at f y later s ∙ sym (ap (λ t. cond t (Some y) (first_of (hands false through) later)) n),
      ap (λ t. cond t later (y ∷ without_run f later)) (eq-eqb y.first f (sym s)) ∙ sym (ap (λ t. cond t later (y ∷ without_first (hands false through) later)) n),
    )

-- whether it is
pub ready_one : (through f : ℕ) (runs : List Run) → InOrder 0 runs → AllOpen through runs → IsFirstFrom 0 runs (Some f)
    → ready_at through (run_at f runs) ≡ is_there (first_of (hands false through) runs)
ready_one through f [] h o b = refl
ready_one through f (y ∷ later) h o b = ap (ready_at through) (head_at f y later (head_first f y later h b)) ∙ one_if (hands false through y) refl
  where
    one_if : (t : Bool) → hands false through y ≡ t → hands false through y ≡ is_there (first_of (hands false through) (y ∷ later))
    one_if true e = e ∙ sym (ap (λ u. is_there (cond u (Some y) (first_of (hands false through) later))) e)
    one_if false e = e ∙ sym (ap is_there (none_ready through y later h o e).0)

held_if : (test : Run → Bool) (y r : Run) (later : List Run) (t : Bool) → cond t (Some y) (first_of test later) ≡ Some r → (first_of test later ≡ Some r → held_in (without_first test later) + length r.bytes ≡ held_in later)
    → held_in (cond t later (y ∷ without_first test later)) + length r.bytes ≡ held_in (y ∷ later)
held_if test y r later true e ih =
    let b = ap (λ (o : Option Run). length (unwrap_or o y).bytes) e in
    let g : held_in later + length r.bytes ≡ held_in (y ∷ later) = omega (arith, b, sum_by-cons (λ (z : Run). length z.bytes) y later) in g
held_if test y r later false e ih =
    let i = ih e in
    let g : held_in (y ∷ without_first test later) + length r.bytes ≡ held_in (y ∷ later) = omega (arith, i, sum_by-cons (λ (z : Run). length z.bytes) y later, sum_by-cons (λ (z : Run). length z.bytes) y (without_first test later)) in g

-- the bytes without the run that is handed over
pub held_handed : (test : Run → Bool) (runs : List Run) (r : Run) → first_of test runs ≡ Some r → held_in (without_first test runs) + length r.bytes ≡ held_in runs
held_handed test [] r e = absurd cc
held_handed test (y ∷ later) r e = held_if test y r later (test y) e (λ f. held_handed test later r f)

none_if : (test : Run → Bool) (y : Run) (later : List Run) (t : Bool) → cond t (Some y) (first_of test later) ≡ None → (first_of test later ≡ None → without_first test later ≡ later) → cond t later (y ∷ without_first test later) ≡ y ∷ later
none_if test y later true e ih = absurd cc
none_if test y later false e ih = ap (λ zs. y ∷ zs) (ih e)

pub without_none : (test : Run → Bool) (runs : List Run) → first_of test runs ≡ None → without_first test runs ≡ runs
without_none test [] e = refl
without_none test (y ∷ later) e = none_if test y later (test y) e (λ f. without_none test later f)

abbrev pub receiver : Bool → ℕ → List Span → List Run → Option ℕ → ℕ → Receiver
receiver arriving through above runs last highest = record { arriving = arriving; spans = record { first = 0; last = through } ∷ above; runs = runs; last = last; highest = highest }

pub message_eq : (n k : ℕ) (b d : List ℕ) → n ≡ k → b ≡ d → message n b ≡ message k d
message_eq n k b d e f = cc
