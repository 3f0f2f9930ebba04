-- What the spans know.
use Rattle.std.proofs.Common.{◌≡◌, ℕ, ◌+◌, ◌<◌, ◌≤◌, min, max, nat_le, nat_lt, ◌==◌, cond, Bool, true, false, ◌&&◌, ◌||◌, List, [], ◌∷◌, refl, ap, subst, ◌∙◌, arith, inl, inr, ◌⊎◌, not}
use Rattle.std.proofs.lemmas.Bool.{cases_lt, lt-ltb, le-ltb, leb-true}
use Rattle.std.proofs.lemmas.Bool.Decides.{nat_tests}
use Rattle.flow_recv.specs.declared.spans.Span.{Span}
use Rattle.rtmfp_data_chunks.specs.HandsOver.{IsIn}
use Rattle.rtmfp_data_chunks.specs.Runs.{Chunk}
use Rattle.flow_recv.specs.Receiver.{Receiver, Apart, FromZero, span, covers, knows, lacks, add_span, spans_forward, spans_after}

-- each span goes upward
abbrev pub Formed : List Span → Type 0
Formed [] = Unit {0}
Formed (s ∷ later) = (s.first ≤ s.last) × Formed later

or_swap : (a b c : Bool) → (b || (a || c)) ≡ (a || (b || c))
or_swap true true c = refl
or_swap true false c = refl
or_swap false true c = refl
or_swap false false c = refl

or_assoc : (a b c : Bool) → ((a || b) || c) ≡ (a || (b || c))
or_assoc true b c = refl
or_assoc false b c = refl

-- two spans that touch cover what one over both covers
covers_both : (n a b c d : ℕ) → a ≤ b → c ≤ d → a ≤ d + 1 → c ≤ b + 1 → (nat_le (min a c) n && nat_le n (max b d)) ≡ ((nat_le a n && nat_le n b) || (nat_le c n && nat_le n d))
covers_both n a b c d p q r t = grind (arith, nat_tests)

pub knows_add : (a b : ℕ) (ss : List Span) (n : ℕ) → a ≤ b → Formed ss → knows (add_span a b ss) n ≡ (covers n (span a b) || knows ss n)
knows_add a b [] n le f = refl
knows_add a b (s ∷ later) n le f = elim (cases_lt (s.last + 1) a) [
  | inl before ↦
      rw (lt-ltb (s.last + 1) a before) (ap (λ x. covers n s || x) (knows_add a b later n le f.1) ∙ or_swap (covers n (span a b)) (covers n s) (knows later n))
  | inr touch ↦ rw (le-ltb (s.last + 1) a touch) (
      elim (cases_lt (b + 1) s.first) [
        | inl after ↦ (rw (lt-ltb (b + 1) s.first after) refl)
        | inr meet ↦ rw (le-ltb (b + 1) s.first meet) (
            knows_add (min a s.first) (max b s.last) later n (omega (arith, le, f.0)) f.1
            ∙ (ap (λ x. x || knows later n) (covers_both n a b s.first s.last le f.0 touch meet) ∙ or_assoc (covers n (span a b)) (covers n s) (knows later n))
            )
      ]
      )
]

pub formed_add : (a b : ℕ) (ss : List Span) → a ≤ b → Formed ss → Formed (add_span a b ss)
formed_add a b [] le f = (le, tt)
formed_add a b (s ∷ later) le f = elim (cases_lt (s.last + 1) a) [
  | inl before ↦ rw (lt-ltb (s.last + 1) a before) (f.0, formed_add a b later le f.1)
  | inr touch ↦ rw (le-ltb (s.last + 1) a touch) (
      elim (cases_lt (b + 1) s.first) [
        | inl after ↦ rw (lt-ltb (b + 1) s.first after) (le, f)
        | inr meet ↦ rw (le-ltb (b + 1) s.first meet) (formed_add (min a s.first) (max b s.last) later (omega (arith, le, f.0)) f.1)
      ]
      )
]

pub apart_formed : (ss : List Span) → Apart ss → Formed ss
apart_formed [] a = tt
apart_formed (s ∷ later) a = (a.0, apart_formed later a.2)

-- what is added lies no lower than the spans do
added_low : (a b low : ℕ) (ss : List Span) (t : Span) → low < a → ((u : Span) → IsIn u ss → low < u.first) → IsIn t (add_span a b ss) → low < t.first
added_low a b low [] t la h (inl e) = rw e la
added_low a b low [] t la h (inr n) = absurd n
added_low a b low (s ∷ later) t la h k = elim (cases_lt (s.last + 1) a) [
  | inl l ↦
      let j : IsIn t (s ∷ add_span a b later) = subst (λ (x : Bool). IsIn t (cond x (s ∷ add_span a b later) (cond (nat_lt (b + 1) s.first) (span a b ∷ s ∷ later) (add_span (min a s.first) (max b s.last) later)))) (lt-ltb (s.last + 1) a l) k in
      elim j [ inl e ↦ (rw e (h s (inl refl))) | inr n ↦ added_low a b low later t la (λ u i. h u (inr i)) n ]
  | inr l ↦
      let j : IsIn t (cond (nat_lt (b + 1) s.first) (span a b ∷ s ∷ later) (add_span (min a s.first) (max b s.last) later)) =
      subst (λ (x : Bool). IsIn t (cond x (s ∷ add_span a b later) (cond (nat_lt (b + 1) s.first) (span a b ∷ s ∷ later) (add_span (min a s.first) (max b s.last) later)))) (le-ltb (s.last + 1) a l) k in
      elim (cases_lt (b + 1) s.first) [
        | inl m ↦
            let i : IsIn t (span a b ∷ s ∷ later) = subst (λ (x : Bool). IsIn t (cond x (span a b ∷ s ∷ later) (add_span (min a s.first) (max b s.last) later))) (lt-ltb (b + 1) s.first m) j in
            elim i [ inl e ↦ (rw e la) | inr n ↦ h t n ]
        | inr m ↦
            let i : IsIn t (add_span (min a s.first) (max b s.last) later) = subst (λ (x : Bool). IsIn t (cond x (span a b ∷ s ∷ later) (add_span (min a s.first) (max b s.last) later))) (le-ltb (b + 1) s.first m) j in
            let low' : low < min a s.first = let g = h s (inl refl) in omega (arith, la, g) in
            added_low (min a s.first) (max b s.last) low later t low' (λ u n. h u (inr n)) i
      ]
]

pub apart_add : (a b : ℕ) (ss : List Span) → a ≤ b → Apart ss → Apart (add_span a b ss)
apart_add a b [] le h = (le, λ t n. absurd n, tt)
apart_add a b (s ∷ later) le h = elim (cases_lt (s.last + 1) a) [
  | inl l ↦ rw (lt-ltb (s.last + 1) a l) (h.0, λ t k. added_low a b (s.last + 1) later t l h.1 k, apart_add a b later le h.2)
  | inr l ↦ rw (le-ltb (s.last + 1) a l) (
      elim (cases_lt (b + 1) s.first) [
        | inl m ↦ rw (lt-ltb (b + 1) s.first m) (le, λ t k. elim k [ inl e ↦ (rw e m) | inr n ↦ omega (arith, m, h.0, h.1 t n) ], h)
        | inr m ↦ rw (le-ltb (b + 1) s.first m) (apart_add (min a s.first) (max b s.last) later (omega (arith, le, h.0)) h.2)
      ]
      )
]

-- a number that is known lies above what all the spans lie above
pub known_above : (low : ℕ) (ss : List Span) (n : ℕ) → ((t : Span) → IsIn t ss → low < t.first) → knows ss n ≡ true → low < n
known_above low [] n h e = absurd cc
known_above low (s ∷ later) n h e = elim (or_either (covers n s) (knows later n) e) [
  | inl a ↦ let b = h s (inl refl) in let c = both (nat_le s.first n) (nat_le n s.last) a in omega (arith, b, leb-true s.first n c.0)
  | inr a ↦ known_above low later n (λ t i. h t (inr i)) a
]
  where
    or_either : (a b : Bool) → (a || b) ≡ true → (a ≡ true) ⊎ (b ≡ true)
    or_either true b e = inl refl
    or_either false b e = inr e

    both : (a b : Bool) → (a && b) ≡ true → (a ≡ true) × (b ≡ true)
    both true b e = (refl, e)
    both false b e = absurd cc

add_same : (s : Span) (later : List Span) → Apart (s ∷ later) → add_span s.first s.last later ≡ s ∷ later
add_same s [] a = refl
add_same s (t ∷ later) a =
    let lt : s.last + 1 < t.first = a.1 t (inl refl) in
    let up : t.first ≤ t.last = a.2.0 in
    rw (le-ltb (t.last + 1) s.first (omega (arith, lt, up, a.0)), lt-ltb (s.last + 1) t.first lt) refl

known_if : (s : Span) (later : List Span) (n : ℕ) (t : Bool) → covers n s ≡ t → Apart (s ∷ later) → (t || knows later n) ≡ true → (add_span n n later ≡ later) ⊎ (t ≡ true) → add_span n n (s ∷ later) ≡ s ∷ later
known_if s later n true e a k ih =
    let lo : s.first ≤ n = leb-true s.first n (grind (arith, nat_tests)) in
    let hi : n ≤ s.last = leb-true n s.last (grind (arith, nat_tests)) in
    let mi : min n s.first ≡ s.first = omega (arith, lo) in
    let ma : max n s.last ≡ s.last = omega (arith, hi) in
    rw (le-ltb (s.last + 1) n (omega (arith, hi)), le-ltb (n + 1) s.first (omega (arith, lo)), mi, ma) (add_same s later a)
known_if s later n false e a k (inl ih) = rw (lt-ltb (s.last + 1) n (known_above (s.last + 1) later n a.1 k)) (ap (λ zs. s ∷ zs) ih)
known_if s later n false e a k (inr f) = absurd cc

known_tail : (t : Bool) (n : ℕ) (later : List Span) → (t || knows later n) ≡ true → (knows later n ≡ true → add_span n n later ≡ later) → (add_span n n later ≡ later) ⊎ (t ≡ true)
known_tail true n later e f = inr refl
known_tail false n later e f = inl (f e)

-- adding a number that is known changes nothing
pub add_known : (n : ℕ) (ss : List Span) → Apart ss → knows ss n ≡ true → add_span n n ss ≡ ss
add_known n [] a e = absurd cc
add_known n (s ∷ later) a e = known_if s later n (covers n s) refl a e (known_tail (covers n s) n later e (add_known n later a.2))

lacks_known : (a : Bool) → not a ≡ false → a ≡ true
lacks_known true e = refl
lacks_known false e = absurd cc

or_true : (a b : Bool) → b ≡ true → (a || b) ≡ true
or_true true b e = refl
or_true false b e = e

-- a number that isn't missing is known after a forward number too, and adding it changes nothing
pub add_again : (n f : ℕ) (ss : List Span) → Apart ss → lacks ss n ≡ false → add_span n n (add_span 0 f ss) ≡ add_span 0 f ss
add_again n f ss a e =
    let k : knows (add_span 0 f ss) n ≡ true = knows_add 0 f ss n (omega arith) (apart_formed ss a) ∙ or_true (covers n (span 0 f)) (knows ss n) (lacks_known (knows ss n) e) in
    add_known n (add_span 0 f ss) (apart_add 0 f ss (omega arith) a) k

-- the first span still begins with 0
zero_from : (b : ℕ) (ss : List Span) → FromZero (add_span 0 b ss)
zero_from b [] = refl
zero_from b (s ∷ later) =
    rw (le-ltb (s.last + 1) 0 (omega arith)) (
    elim (cases_lt (b + 1) s.first) [
      | inl m ↦ rw (lt-ltb (b + 1) s.first m) refl
      | inr m ↦ rw (le-ltb (b + 1) s.first m) (let e : min 0 s.first ≡ 0 = omega arith in rw e (zero_from (max b s.last) later))
    ]
    )

pub from_zero_add : (a b : ℕ) (ss : List Span) → FromZero ss → FromZero (add_span a b ss)
from_zero_add a b [] z = absurd z
from_zero_add a b (s ∷ later) z = elim (cases_lt (s.last + 1) a) [
  | inl l ↦ rw (lt-ltb (s.last + 1) a l) z
  | inr l ↦ rw (le-ltb (s.last + 1) a l) (
      elim (cases_lt (b + 1) s.first) [
        | inl m ↦ absurd (omega (arith, m, z))
        | inr m ↦ rw (le-ltb (b + 1) s.first m) (let e : min a s.first ≡ 0 = omega (arith, z) in rw e (zero_from (max b s.last) later))
      ]
      )
]

-- what is missing after a chunk
one_number : (n q : ℕ) → (nat_le q n && nat_le n q) ≡ (n == q)
one_number n q = grind (arith, nat_tests)

below_number : (n q : ℕ) → (nat_le 0 n && nat_le n q) ≡ nat_le n q
below_number n q = grind (arith, nat_tests)

lacks_if : (a b k : Bool) → not (a || (b || k)) ≡ (not k && not (a || b))
lacks_if true b true = refl
lacks_if true b false = refl
lacks_if false true true = refl
lacks_if false true false = refl
lacks_if false false true = refl
lacks_if false false false = refl

pub lacks_after : (r : Receiver) (c : Chunk) (n : ℕ) → Formed r.spans → lacks (spans_after r c) n ≡ (lacks r.spans n && not ((n == c.seq) || nat_le n c.forward))
lacks_after r c n formed =
    ap not (
    knows_add c.seq c.seq (spans_forward r c) n (omega arith) (formed_add 0 c.forward r.spans (omega arith) formed)
    ∙ (ap (λ x. covers n (span c.seq c.seq) || x) (knows_add 0 c.forward r.spans n (omega arith) formed)
    ∙ (ap (λ x. x || (covers n (span 0 c.forward) || knows r.spans n)) (one_number n c.seq) ∙ ap (λ x. (n == c.seq) || (x || knows r.spans n)) (below_number n c.forward)))
    )
    ∙ lacks_if (n == c.seq) (nat_le n c.forward) (knows r.spans n)
