-- Whole runs stay.
use Rattle.std.proofs.Common.{◌≡◌, ℕ, ◌+◌, ◌-◌, ◌≤◌, cond, not, Bool, true, false, ◌||◌, List, [], ◌∷◌, Option, Some, None, length, refl, ap, ◌∙◌, arith}
use Rattle.std.specs.List.{filter}
use Rattle.std.specs.Option.{is_some, option_map}
use Rattle.flow_recv.specs.declared.spans.Span.{Span}
use Rattle.rtmfp_data_chunks.specs.Runs.{Run, is_whole}
use Rattle.flow_recv.specs.Receiver.{lacks, is_alive}
use Rattle.flow_recv.specs.Keyed.{AllWhole, whole_firsts, stays, is_between}

shorter_if : (n : ℕ) (ks : List ℕ) (later : List Run) (t : Bool) → length ks ≤ length later → length (cond t (n ∷ ks) ks) ≤ length later + 1
shorter_if n ks later true le = omega (arith, le)
shorter_if n ks later false le = omega (arith, le)

whole_few : (runs : List Run) → length (whole_firsts runs) ≤ length runs
whole_few [] = omega arith
whole_few (y ∷ later) = let le = shorter_if y.first (whole_firsts later) later (is_whole y) (whole_few later) in omega (arith, le)

all_if : (n : ℕ) (ks : List ℕ) (later : List Run) (t : Bool) → length ks ≤ length later → length (cond t (n ∷ ks) ks) ≡ length later + 1 → (t ≡ true) × (length ks ≡ length later)
all_if n ks later true le e = (refl, omega (arith, e))
all_if n ks later false le e = absurd (omega (arith, le, e))

-- where there are as many whole runs as runs
pub all_whole : (runs : List Run) → length (whole_firsts runs) ≡ length runs → AllWhole runs
all_whole [] e = tt
all_whole (y ∷ later) e =
    let p = all_if y.first (whole_firsts later) later (is_whole y) (whole_few later) (omega (arith, e)) in
    (p.0, all_whole later p.1)

-- a run is there where its number is
pub some_first : (o : Option Run) → is_some (option_map (λ y. y.first) o) ≡ is_some o
some_first None = refl
some_first (Some y) = refl

alive_if : (f r before after : Bool) → cond f r false ≡ true → not (cond f (cond r false (not after)) (cond before (cond r false (not after)) true)) ≡ true
alive_if true true before after e = refl
alive_if true false before after e = absurd cc
alive_if false r before after e = absurd cc

or_right : (a b : Bool) → b ≡ true → (a || b) ≡ true
or_right true b e = refl
or_right false b e = e

whole_stays : (spans : List Span) (low high : ℕ) (y : Run) → is_whole y ≡ true → stays spans low high y ≡ true
whole_stays spans low high y e = or_right (not (is_between low high y)) (is_alive spans y) (alive_if y.front y.rear (lacks spans (y.first - 1)) (lacks spans (y.last + 1)) e)

pub wholes_stay : (spans : List Span) (low high : ℕ) (runs : List Run) → AllWhole runs → filter (stays spans low high) runs ≡ runs
wholes_stay spans low high [] h = refl
wholes_stay spans low high (y ∷ later) h =
    ap (λ t. cond t (y ∷ filter (stays spans low high) later) (filter (stays spans low high) later)) (whole_stays spans low high y h.0)
    ∙ ap (λ zs. y ∷ zs) (wholes_stay spans low high later h.1)
