-- The first run that may be handed over in queueing order.
use Rattle.std.proofs.Common.{◌≡◌, ℕ, ◌+◌, ◌-◌, ◌<◌, ◌≤◌, nat_le, cond, not, Bool, true, false, ◌||◌, List, [], ◌∷◌, None, refl, ap, sym, ◌∙◌, arith, inl, inr}
use Rattle.std.proofs.lemmas.Bool.{cases_lt, le-leb, lt-leb}
use Rattle.flow_recv.specs.declared.spans.Span.{Span}
use Rattle.rtmfp_data_chunks.specs.Runs.{Run}
use Rattle.flow_recv.specs.Receiver.{covers, knows, lacks, span, hands, first_of, without_first}
use Rattle.flow_recv.specs.Order.{InOrder, AllOpen}
use Rattle.flow_recv.specs.Sound.{AllAlive}
use Rattle.flow_recv.proofs.Bounds.{alive_is}

-- ---- the first run in queueing order

low_if : (f r : Bool) (through first : ℕ) → through < first → cond (cond f r false) (nat_le first through) false ≡ false
low_if true true through first lt = lt-leb first through lt
low_if true false through first lt = refl
low_if false r through first lt = refl

not_ready : (through : ℕ) (y : Run) → through < y.first → hands false through y ≡ false
not_ready through y lt = low_if y.front y.rear through y.first lt

none_above : (through low : ℕ) (runs : List Run) → through < low → InOrder low runs → (first_of (hands false through) runs ≡ None) × (without_first (hands false through) runs ≡ runs)
none_above through low [] lt h = (refl, refl)
none_above through low (y ∷ later) lt h =
    let n : hands false through y ≡ false = not_ready through y (omega (arith, lt, h.0)) in
    let r = none_above through (y.last + 1) later (omega (arith, lt, h.0, h.1)) h.2 in
    (rw n r.0, rw n (ap (λ zs. y ∷ zs) r.1))

waits_if : (f r : Bool) (through first last : ℕ) → cond (cond f r false) (nat_le first through) false ≡ false → first ≤ last → (f ≡ false → through < first) → (r ≡ false → through ≤ last) → through < last + 1
waits_if true true through first last e up a b = elim (cases_lt through first) [ inl lt ↦ (omega (arith, lt, up)) | inr ge ↦ let g : true ≡ false = sym (le-leb first through ge) ∙ e in absurd cc ]
waits_if true false through first last e up a b = let g = b refl in omega (arith, g)
waits_if false r through first last e up a b = let g = a refl in omega (arith, g, up)

-- where the first run isn't ready, none is
pub none_ready : (through : ℕ) (y : Run) (later : List Run) → InOrder 0 (y ∷ later) → AllOpen through (y ∷ later) → hands false through y ≡ false
    → (first_of (hands false through) (y ∷ later) ≡ None) × (without_first (hands false through) (y ∷ later) ≡ y ∷ later)
none_ready through y later h o n =
    let lt = waits_if y.front y.rear through y.first y.last n h.1 o.0 o.1 in
    let r = none_above through (y.last + 1) later lt h.2 in
    (rw n r.0, rw n (ap (λ zs. y ∷ zs) r.1))

pub lacks_above : (through n : ℕ) (above : List Span) → lacks (span 0 through ∷ above) n ≡ true → through < n
lacks_above through n above e = elim (cases_lt through n) [
  | inl lt ↦ lt
  | inr ge ↦ let k : covers n (span 0 through) ≡ true = rw (le-leb 0 n (omega arith), le-leb n through ge) refl in let f : false ≡ true = sym (ap (λ x. not (x || knows above n)) k) ∙ e in absurd cc
]

pub all_open : (through : ℕ) (above : List Span) (runs : List Run) → AllAlive (span 0 through ∷ above) runs → AllOpen through runs
all_open through above [] h = tt
all_open through above (y ∷ later) h =
    let l = alive_is (span 0 through ∷ above) y h.1 in (
      λ f. let g = lacks_above through (y.first - 1) above (l.before f) in omega (arith, g),
      λ f. let g = lacks_above through (y.last + 1) above (l.after f) in omega (arith, g),
      all_open through above later h.2,
    )
