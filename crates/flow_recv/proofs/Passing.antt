-- After a chunk only runs beside its number, or beside the numbers that its forward number passes, may be dead.
use Rattle.std.proofs.Common.{◌≡◌, ℕ, ◌+◌, ◌-◌, ◌<◌, ◌≤◌, max, nat_le, not, Bool, true, false, ◌&&◌, ◌||◌, List, [], ◌∷◌, refl, ap, sym, ◌∙◌, subst, arith, inl, inr, ◌⊎◌, ◌==◌}
use Rattle.std.specs.List.{filter}
use Rattle.std.proofs.lemmas.Bool.{cases_lt, le-leb, lt-leb, ne_eqb}
use Rattle.rtmfp_data_chunks.specs.HandsOver.{IsIn}
use Rattle.flow_recv.specs.declared.spans.Span.{Span}
use Rattle.rtmfp_data_chunks.specs.Runs.{Chunk, Run}
use Rattle.flow_recv.specs.Receiver.{Receiver, span, covers, knows, lacks, is_alive, is_beside, living, spans_after}
use Rattle.flow_recv.specs.Sound.{AllAlive}
use Rattle.flow_recv.specs.Keyed.{is_between, stays}
use Rattle.flow_recv.proofs.Knowing.{Formed, lacks_after}
use Rattle.flow_recv.proofs.Bounds.{alive_is, is_alive_from}
use Rattle.flow_recv.proofs.Beside.{Near, AllNear}
use Rattle.flow_recv.proofs.Searching.{lacks_above}
use Rattle.rtmfp_data_chunks.proofs.Filtering.{filter_same, filter_twice}

-- later spans lack what earlier ones lack, but for the numbers between two
abbrev pub Lacks_but : List Span → List Span → (ℕ → Type 0) → Type 0
Lacks_but b a told = (m : ℕ) → (told m → ⊥) → lacks a m ≡ true → lacks b m ≡ true

between_not : (low high : ℕ) (y : Run) → is_between low high y ≡ false → y.first - 1 ≤ high → low ≤ y.last + 1 → ⊥
between_not low high y e lo hi =
    let t : is_between low high y ≡ true = rw (le-leb (y.first - 1) high lo, le-leb low (y.last + 1) hi) refl in
    let f : true ≡ false = sym t ∙ e in cc

abbrev pub Within : ℕ → ℕ → ℕ → Type 0
Within low high m = (low ≤ m) × (m ≤ high)

-- ---- a forward number alone

and_no : (a b : Bool) → b ≡ false → (a && b) ≡ false
and_no true b e = e
and_no false b e = refl

covers_above : (n last : ℕ) → last < n → covers n (span 0 last) ≡ false
covers_above n last lt = and_no (nat_le 0 n) (nat_le n last) (lt-leb n last lt)

forward_told : (t f : ℕ) (above : List Span) → Lacks_but (span 0 f ∷ above) (span 0 t ∷ above) (Within (t + 1) f)
forward_told t f above m out e =
    let lo = lacks_above t m above e in
    elim (cases_lt f m) [
      | inl lt ↦
          let c : covers m (span 0 f) ≡ false = covers_above m f lt in
          let d : covers m (span 0 t) ≡ false = covers_above m t lo in
          ap (λ x. not (x || knows above m)) c ∙ (sym (ap (λ x. not (x || knows above m)) d) ∙ e)
      | inr ge ↦ absurd (out (omega (arith, lo), ge))
    ]

alive_out : (b a : List Span) (low high : ℕ) (y : Run) → Lacks_but b a (Within low high) → is_between low high y ≡ false → y.first ≤ y.last → is_alive a y ≡ true → is_alive b y ≡ true
alive_out b a low high y k e up h =
    let l = alive_is a y h in
    is_alive_from b y (record {
      before = λ f. k (y.first - 1) (λ w. absurd (between_not low high y e w.1 (let q = w.0 in omega (arith, q, up)))) (l.before f);
      after = λ f. k (y.last + 1) (λ w. absurd (between_not low high y e (let q = w.1 in omega (arith, q, up)) w.0)) (l.after f);
    })

stays_if : (b : Bool) (a : Bool) → (b ≡ false → a ≡ true) → (not b || a) ≡ a
stays_if true a h = refl
stays_if false a h = sym (h refl)

alive_in : (a : List Span) (runs : List Run) (y : Run) → AllAlive a runs → IsIn y runs → (y.first ≤ y.last) × (is_alive a y ≡ true)
alive_in a [] y h i = absurd i
alive_in a (x ∷ later) y h i = elim i [
  | inl e ↦ subst (λ (z : Run). (z.first ≤ z.last) × (is_alive a z ≡ true)) (sym e) (h.0, h.1)
  | inr j ↦ alive_in a later y h.2 j
]

pub forward_living : (t f : ℕ) (above : List Span) (runs : List Run) → t < f → AllAlive (span 0 t ∷ above) runs → filter (stays (span 0 f ∷ above) (t + 1) f) runs ≡ living (span 0 (max t f) ∷ above) runs
forward_living t f above runs lt h =
    let m : f ≡ max t f = omega (arith, lt) in
    filter_same (stays (span 0 f ∷ above) (t + 1) f) (is_alive (span 0 f ∷ above)) runs
    (λ y i. let l = alive_in (span 0 t ∷ above) runs y h i in
    stays_if (is_between (t + 1) f y) (is_alive (span 0 f ∷ above) y) (λ e. alive_out (span 0 f ∷ above) (span 0 t ∷ above) (t + 1) f y (forward_told t f above) e l.0 l.1))
    ∙ ap (λ n. living (span 0 n ∷ above) runs) m

-- ---- a whole chunk

chunk_if : (l e f : Bool) → l ≡ true → e ≡ false → f ≡ false → (l && not (e || f)) ≡ true
chunk_if l e f p q r = ap (λ x. x && not (e || f)) p ∙ (ap (λ x. not (x || f)) q ∙ ap not r)

chunk_told : (r : Receiver) (c : Chunk) (t : ℕ) (above : List Span) → r.spans ≡ span 0 t ∷ above → Formed r.spans → Lacks_but (spans_after r c) r.spans (λ m. (m ≡ c.seq) ⊎ Within (t + 1) c.forward m)
chunk_told r c t above s formed m out e =
    let lo = lacks_above t m above (ap (λ (ss : List Span). lacks ss m) (sym s) ∙ e) in
    let far : c.forward < m = elim (cases_lt c.forward m) [ inl lt ↦ lt | inr ge ↦ absurd (out (inr (omega (arith, lo), ge))) ] in
    lacks_after r c m formed ∙ chunk_if (lacks r.spans m) (m == c.seq) (nat_le m c.forward) e (ne_eqb m c.seq (λ q. out (inl q))) (lt-leb m c.forward far)

alive_past : (b a : List Span) (n low high : ℕ) (y : Run) → Lacks_but b a (λ m. (m ≡ n) ⊎ Within low high m) → is_between low high y ≡ false → is_beside n y ≡ false → y.first ≤ y.last → is_alive a y ≡ true → is_alive b y ≡ true
alive_past b a n low high y k e g up h =
    let l = alive_is a y h in
    is_alive_from b y (record {
      before = λ f. k (y.first - 1) (λ w. elim w [
        | inl q ↦ between_not n n y g (omega (arith, q)) (omega (arith, q, up))
        | inr v ↦ between_not low high y e v.1 (let q = v.0 in omega (arith, q, up))
      ]) (l.before f);
      after = λ f. k (y.last + 1) (λ w. elim w [
        | inl q ↦ between_not n n y g (omega (arith, q, up)) (omega (arith, q))
        | inr v ↦ between_not low high y e (let q = v.1 in omega (arith, q, up)) v.0
      ]) (l.after f);
    })

near_in : (a : List Span) (n : ℕ) (runs : List Run) (y : Run) → AllNear a n runs → IsIn y runs → Near a n y
near_in a n [] y h i = absurd i
near_in a n (x ∷ later) y h i = elim i [ inl e ↦ subst (Near a n) (sym e) h.0 | inr j ↦ near_in a n later y h.1 j ]

past_alive : (b a : List Span) (n low high : ℕ) (y : Run) → Lacks_but b a (λ m. (m ≡ n) ⊎ Within low high m) → Near a n y → is_between low high y ≡ false → is_beside n y ≡ false → is_alive b y ≡ true
past_alive b a n low high y k h e g = elim h.1 [
  | inl l ↦ alive_past b a n low high y k e g h.0 l
  | inr m ↦ absurd (between_not n n y g (let q = m.0 in omega (arith, q)) (let q = m.1 in omega (arith, q)))
]

tests_if : (f g a : Bool) → (f ≡ false → g ≡ false → a ≡ true) → ((not f || a) && (not g || a)) ≡ a
tests_if true true true h = refl
tests_if true true false h = refl
tests_if true false true h = refl
tests_if true false false h = refl
tests_if false true true h = refl
tests_if false true false h = refl
tests_if false false a h = ap (λ x. true && true) (h refl refl) ∙ sym (h refl refl)

-- both tests, beside what the forward number passes and beside the number, are the whole test
pub passed_living : (r : Receiver) (c : Chunk) (t : ℕ) (above : List Span) (runs : List Run) → r.spans ≡ span 0 t ∷ above → Formed r.spans → AllNear r.spans c.seq runs
    → filter (stays (spans_after r c) c.seq c.seq) (filter (stays (spans_after r c) (t + 1) c.forward) runs) ≡ living (spans_after r c) runs
passed_living r c t above runs s formed h =
    let b = spans_after r c in
    filter_twice (stays b (t + 1) c.forward) (stays b c.seq c.seq) runs
    ∙ filter_same (λ y. stays b (t + 1) c.forward y && stays b c.seq c.seq y) (is_alive b) runs
    (λ y i. tests_if (is_between (t + 1) c.forward y) (is_between c.seq c.seq y) (is_alive b y) (λ e g. past_alive b r.spans c.seq (t + 1) c.forward y (chunk_told r c t above s formed) (near_in r.spans c.seq runs y h i) e g))
