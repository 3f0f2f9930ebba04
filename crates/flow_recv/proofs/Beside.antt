-- After a chunk only runs beside its number may be dead.
use Rattle.std.proofs.Common.{◌≡◌, ℕ, ◌+◌, ◌-◌, ◌≤◌, nat_le, nat_lt, ◌==◌, cond, not, Bool, true, false, ◌&&◌, ◌||◌, List, [], ◌∷◌, refl, ap, sym, ◌∙◌, arith, inl, inr, ◌⊎◌}
use Rattle.std.specs.List.{filter}
use Rattle.std.proofs.lemmas.Bool.{ne_eqb, le-leb}
use Rattle.std.proofs.lemmas.Bool.Decides.{nat_tests}
use Rattle.rtmfp_data_chunks.specs.declared.user_data.Part.{Part}
use Rattle.flow_recv.specs.declared.spans.Span.{Span}
use Rattle.rtmfp_data_chunks.specs.Runs.{Chunk, Run, single, fits, joined}
use Rattle.flow_recv.specs.Receiver.{Receiver, span, covers, knows, lacks, is_alive, is_beside, living, join_next, join_before, add_run, spans_forward, spans_after, holds}
use Rattle.flow_recv.specs.Sound.{AllAlive}
use Rattle.flow_recv.proofs.Knowing.{Formed, knows_add, formed_add}
use Rattle.flow_recv.proofs.Bounds.{alive_is, is_alive_from, fits_parts}

-- a run is alive before, or has the number
abbrev pub Near : List Span → ℕ → Run → Type 0
Near a n y = (y.first ≤ y.last) × ((is_alive a y ≡ true) ⊎ ((y.first ≤ n) × (n ≤ y.last)))

abbrev pub AllNear : List Span → ℕ → List Run → Type 0
AllNear a n [] = Unit {0}
AllNear a n (y ∷ later) = Near a n y × AllNear a n later

pub near_runs : (a : List Span) (n : ℕ) (runs : List Run) → AllAlive a runs → AllNear a n runs
near_runs a n [] h = tt
near_runs a n (y ∷ later) h = ((h.0, inl h.1), near_runs a n later h.2)

near_next_if : (a : List Span) (n : ℕ) (x y : Run) (later : List Run) (t : Bool) → fits x y ≡ t → x.first ≤ n → n ≤ x.last → AllNear a n (y ∷ later) → AllNear a n (cond t (joined x y ∷ later) (x ∷ y ∷ later))
near_next_if a n x y later true e lo hi h = let p = fits_parts x y e in ((omega (arith, lo, hi, p.0, h.0.0), inr (lo, omega (arith, hi, p.0, h.0.0))), h.1)
near_next_if a n x y later false e lo hi h = ((omega (arith, lo, hi), inr (lo, hi)), h)

near_next : (a : List Span) (n : ℕ) (x : Run) (runs : List Run) → x.first ≤ n → n ≤ x.last → AllNear a n runs → AllNear a n (join_next x runs)
near_next a n x [] lo hi h = ((omega (arith, lo, hi), inr (lo, hi)), tt)
near_next a n x (y ∷ later) lo hi h = near_next_if a n x y later (fits x y) refl lo hi h

near_before_if : (a : List Span) (n : ℕ) (x y : Run) (later : List Run) (t : Bool) → fits y x ≡ t → x.first ≡ n → x.last ≡ n → AllNear a n (y ∷ later) → AllNear a n (cond t (join_next (joined y x) later) (join_next x (y ∷ later)))
near_before_if a n x y later true e f l h = let p = fits_parts y x e in near_next a n (joined y x) later (omega (arith, p.0, f, h.0.0)) (omega (arith, l)) h.1
near_before_if a n x y later false e f l h = near_next a n x (y ∷ later) (omega (arith, f)) (omega (arith, l)) h

near_add_if : (a : List Span) (n : ℕ) (x y : Run) (later : List Run) (t : Bool) → x.first ≡ n → x.last ≡ n → AllNear a n (y ∷ later) → AllNear a n (add_run x later) → AllNear a n (cond t (y ∷ add_run x later) (join_before x (y ∷ later)))
near_add_if a n x y later true f l h ih = (h.0, ih)
near_add_if a n x y later false f l h ih = near_before_if a n x y later (fits y x) refl f l h

near_add : (a : List Span) (n : ℕ) (x : Run) (runs : List Run) → x.first ≡ n → x.last ≡ n → AllNear a n runs → AllNear a n (add_run x runs)
near_add a n x [] f l h = ((omega (arith, f, l), inr (omega (arith, f), omega (arith, l))), tt)
near_add a n x (y ∷ later) f l h = near_add_if a n x y later (not (fits y x) && nat_lt y.last x.first) f l h (near_add a n x later f l h.1)

near_held_if : (a : List Span) (n : ℕ) (p : Part) (b : List ℕ) (runs : List Run) (t : Bool) → AllNear a n runs → AllNear a n (cond t (add_run (single n p b) runs) runs)
near_held_if a n p b runs true h = near_add a n (single n p b) runs refl refl h
near_held_if a n p b runs false h = h

-- b knows what a knows, and the number
abbrev pub Knows_more : List Span → List Span → ℕ → Type 0
Knows_more b a n = (m : ℕ) → knows b m ≡ ((m == n) || knows a m)

other_if : (b a : List Span) (n m : ℕ) → Knows_more b a n → (m ≡ n → ⊥) → lacks a m ≡ true → lacks b m ≡ true
other_if b a n m k ne e = ap not (k m ∙ ap (λ x. x || knows a m) (ne_eqb m n ne)) ∙ e

still_alive : (b a : List Span) (n : ℕ) (y : Run) → Knows_more b a n → is_beside n y ≡ false → y.first ≤ y.last → is_alive a y ≡ true → is_alive b y ≡ true
still_alive b a n y k e up h =
    let l = alive_is a y h in
    is_alive_from b y (record {
      before = λ f. other_if b a n (y.first - 1) k (λ x. absurd (beside_not n y e (omega (arith, x)) (omega (arith, x, up)))) (l.before f);
      after = λ f. other_if b a n (y.last + 1) k (λ x. absurd (beside_not n y e (omega (arith, x, up)) (omega (arith, x)))) (l.after f);
    })
  where
    beside_not : (n : ℕ) (y : Run) → is_beside n y ≡ false → y.first - 1 ≤ n → n ≤ y.last + 1 → ⊥
    beside_not n y e lo hi =
        let t : is_beside n y ≡ true = rw (le-leb (y.first - 1) n lo, le-leb n (y.last + 1) hi) refl in
        let f : true ≡ false = sym t ∙ e in cc

near_ok_if : (b a : List Span) (n : ℕ) (y : Run) (t : Bool) → Knows_more b a n → is_beside n y ≡ t → Near a n y → (not t || is_alive b y) ≡ is_alive b y
near_ok_if b a n y true k e h = refl
near_ok_if b a n y false k e h = elim h.1 [
  | inl l ↦ sym (still_alive b a n y k e h.0 l)
  | inr m ↦
      let t : is_beside n y ≡ true = rw (le-leb (y.first - 1) n (omega (arith, m.0)), le-leb n (y.last + 1) (omega (arith, m.1))) refl in
      let f : true ≡ false = sym t ∙ e in absurd cc
]

-- the test beside the number is the whole test
pub beside_living : (b a : List Span) (n : ℕ) (runs : List Run) → Knows_more b a n → AllNear a n runs → filter (λ y. not (is_beside n y) || is_alive b y) runs ≡ living b runs
beside_living b a n [] k h = refl
beside_living b a n (y ∷ later) k h =
    ap (λ x. cond x (y ∷ filter (λ z. not (is_beside n z) || is_alive b z) later) (filter (λ z. not (is_beside n z) || is_alive b z) later)) (near_ok_if b a n y (is_beside n y) k refl h.0)
    ∙ ap (λ zs. cond (is_alive b y) (y ∷ zs) zs) (beside_living b a n later k h.1)

in_first : (t f m : ℕ) (later : List Span) → f ≤ t → ((nat_le 0 m && nat_le m f) || (nat_le 0 m && nat_le m t)) ≡ (nat_le 0 m && nat_le m t)
in_first t f m later le = grind (arith, nat_tests)

or_assoc : (a b c : Bool) → ((a || b) || c) ≡ (a || (b || c))
or_assoc true b c = refl
or_assoc false b c = refl

one_covers : (n m : ℕ) → (nat_le n m && nat_le m n) ≡ (m == n)
one_covers n m = grind (arith, nat_tests)

-- a forward number that isn't above the first span tells nothing
pub knows_more : (r : Receiver) (c : Chunk) (t : ℕ) (above : List Span) → r.spans ≡ span 0 t ∷ above → Formed r.spans → c.forward ≤ t → Knows_more (spans_after r c) r.spans c.seq
knows_more r c t above e formed le m =
    knows_add c.seq c.seq (spans_forward r c) m (omega arith) (formed_add 0 c.forward r.spans (omega arith) formed)
    ∙ (ap (λ x. covers m (span c.seq c.seq) || x) (knows_add 0 c.forward r.spans m (omega arith) formed ∙ absorbed)
    ∙ ap (λ x. x || knows r.spans m) (one_covers c.seq m))
  where
    absorbed : (covers m (span 0 c.forward) || knows r.spans m) ≡ knows r.spans m
    absorbed = ap (λ (ss : List Span). covers m (span 0 c.forward) || knows ss m) e ∙ (sym (or_assoc (covers m (span 0 c.forward)) (covers m (span 0 t)) (knows above m)) ∙ (ap (λ x. x || knows above m) (in_first t c.forward m above le) ∙ sym (ap (λ (ss : List Span). knows ss m) e)))

pub near_held : (r : Receiver) (c : Chunk) → AllAlive r.spans r.runs → AllNear r.spans c.seq (cond (holds r c) (add_run (single c.seq c.part c.bytes) r.runs) r.runs)
near_held r c h = near_held_if r.spans c.seq c.part c.bytes r.runs (holds r c) (near_runs r.spans c.seq r.runs h)

-- what is kept is alive
alive_filter_if : (a : List Span) (y : Run) (later : List Run) (t : Bool) → is_alive a y ≡ t → y.first ≤ y.last → AllAlive a later → AllAlive a (cond t (y ∷ later) later)
alive_filter_if a y later true e up h = (up, e, h)
alive_filter_if a y later false e up h = h

pub alive_living : (a b : List Span) (n : ℕ) (runs : List Run) → AllNear a n runs → AllAlive b (living b runs)
alive_living a b n [] h = tt
alive_living a b n (y ∷ later) h = alive_filter_if b y (living b later) (is_alive b y) refl h.0.0 (alive_living a b n later h.1)

living_if : (y : Run) (later : List Run) (zs : List Run) (t : Bool) → t ≡ true → zs ≡ later → cond t (y ∷ zs) zs ≡ y ∷ later
living_if y later zs true e f = ap (λ (xs : List Run). y ∷ xs) f
living_if y later zs false e f = absurd cc

pub all_living : (a : List Span) (runs : List Run) → AllAlive a runs → living a runs ≡ runs
all_living a [] h = refl
all_living a (y ∷ later) h = living_if y later (living a later) (is_alive a y) h.1 (all_living a later h.2)

without_if : (a : List Span) (y : Run) (later zs : List Run) (t : Bool) → AllAlive a (y ∷ later) → AllAlive a zs → AllAlive a (cond t later (y ∷ zs))
without_if a y later zs true h k = h.2
without_if a y later zs false h k = (h.0, h.1, k)

pub alive_without : (test : Run → Bool) (a : List Span) (runs : List Run) → AllAlive a runs → AllAlive a (Rattle.flow_recv.specs.Receiver.without_first test runs)
alive_without test a [] h = tt
alive_without test a (y ∷ later) h = without_if a y later (Rattle.flow_recv.specs.Receiver.without_first test later) (test y) h (alive_without test a later h.2)
