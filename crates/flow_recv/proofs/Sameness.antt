-- Spans that lie apart are those that know these numbers.
use Rattle.std.proofs.Common.{◌≡◌, ℕ, ◌+◌, ◌<◌, ◌≤◌, max, nat_le, Bool, true, false, ◌&&◌, ◌||◌, List, [], ◌∷◌, refl, ap, sym, ◌∙◌, subst, arith, inl, inr}
use Rattle.std.proofs.lemmas.Bool.{cases_Bool, cases_lt, le-leb, lt-leb}
use Rattle.std.proofs.lemmas.Bool.Decides.{nat_tests}
use Rattle.flow_recv.specs.declared.spans.Span.{Span}
use Rattle.rtmfp_data_chunks.specs.HandsOver.{IsIn}
use Rattle.flow_recv.specs.Receiver.{Apart, span, covers, knows, add_span}
use Rattle.flow_recv.proofs.Knowing.{known_above, knows_add, formed_add, apart_formed, apart_add}

-- a number below a later span, or the one after it
pub unknown_below : (low n : ℕ) (ss : List Span) → ((t : Span) → IsIn t ss → low < t.first) → n ≤ low → knows ss n ≡ false
unknown_below low n ss h le = elim (cases_Bool (knows ss n)) [
  | inl k ↦ let g = known_above low ss n h k in absurd (omega (arith, g, le))
  | inr k ↦ k
]

pub not_covered : (n : ℕ) (s : Span) → s.last < n → covers n s ≡ false
not_covered n s lt = and_no (nat_le s.first n) (nat_le n s.last) (lt-leb n s.last lt)
  where
    and_no : (a b : Bool) → b ≡ false → (a && b) ≡ false
    and_no true b e = e
    and_no false b e = refl

covered : (n : ℕ) (s : Span) → s.first ≤ n → n ≤ s.last → covers n s ≡ true
covered n s lo hi = rw (le-leb s.first n lo, le-leb n s.last hi) refl

or_true : (a b : Bool) → a ≡ true → (a || b) ≡ true
or_true true b e = refl
or_true false b e = absurd cc

-- what the spans know begins with the first of them
known_from : (s : Span) (later : List Span) (n : ℕ) → Apart (s ∷ later) → knows (s ∷ later) n ≡ true → s.first ≤ n
known_from s later n a k = elim (cases_lt n s.first) [
  | inr le ↦ le
  | inl lt ↦
      let no : covers n s ≡ false = rw (lt-leb s.first n lt) refl in
      let rest : knows later n ≡ true = subst (λ (x : Bool). (x || knows later n) ≡ true) no k in
      let up = known_above (s.last + 1) later n a.1 rest in
      absurd (omega (arith, up, lt, a.0))
]

first_le : (s : Span) (later : List Span) (t : Span) (more : List Span) → Apart (s ∷ later) → Apart (t ∷ more) → ((n : ℕ) → knows (s ∷ later) n ≡ knows (t ∷ more) n) → t.first ≤ s.first
first_le s later t more a b e =
    let k : knows (s ∷ later) s.first ≡ true = or_true (covers s.first s) (knows later s.first) (covered s.first s (omega arith) a.0) in
    known_from t more s.first b (sym (e s.first) ∙ k)

last_le : (s : Span) (later : List Span) (t : Span) (more : List Span) → Apart (s ∷ later) → s.first ≡ t.first → s.first ≤ s.last → ((n : ℕ) → knows (s ∷ later) n ≡ knows (t ∷ more) n) → t.last ≤ s.last
last_le s later t more a f up e = elim (cases_lt s.last t.last) [
  | inr le ↦ le
  | inl lt ↦
      let k : knows (t ∷ more) (s.last + 1) ≡ true = or_true (covers (s.last + 1) t) (knows more (s.last + 1)) (covered (s.last + 1) t (omega (arith, f, up)) (omega (arith, lt))) in
      let no : knows (s ∷ later) (s.last + 1) ≡ false =
      ap (λ x. x || knows later (s.last + 1)) (not_covered (s.last + 1) s (omega arith)) ∙ unknown_below (s.last + 1) (s.last + 1) later a.1 (omega arith) in
      absurd (let g : true ≡ false = sym k ∙ (sym (e (s.last + 1)) ∙ no) in cc)
]

rest_same : (s : Span) (later more : List Span) (n : ℕ) → Apart (s ∷ later) → Apart (s ∷ more) → knows (s ∷ later) n ≡ knows (s ∷ more) n → knows later n ≡ knows more n
rest_same s later more n a b e = elim (cases_lt s.last n) [
  | inl lt ↦
      let no = not_covered n s lt in
      sym (ap (λ x. x || knows later n) no) ∙ (e ∙ ap (λ x. x || knows more n) no)
  | inr le ↦ unknown_below (s.last + 1) n later a.1 (omega (arith, le)) ∙ sym (unknown_below (s.last + 1) n more b.1 (omega (arith, le)))
]

same_first : (s t : Span) → s.first ≡ t.first → s.last ≡ t.last → s ≡ t
same_first s t e f = ap (λ a. span a s.last) e ∙ ap (λ b. span t.first b) f

pub same_spans : (xs ys : List Span) → Apart xs → Apart ys → ((n : ℕ) → knows xs n ≡ knows ys n) → xs ≡ ys
same_spans [] [] a b e = refl
same_spans [] (t ∷ more) a b e =
    let k : knows (t ∷ more) t.first ≡ true = or_true (covers t.first t) (knows more t.first) (covered t.first t (omega arith) b.0) in
    absurd (let g : false ≡ true = e t.first ∙ k in cc)
same_spans (s ∷ later) [] a b e =
    let k : knows (s ∷ later) s.first ≡ true = or_true (covers s.first s) (knows later s.first) (covered s.first s (omega arith) a.0) in
    absurd (let g : true ≡ false = sym k ∙ e s.first in cc)
same_spans (s ∷ later) (t ∷ more) a b e =
    let lo = first_le s later t more a b e in
    let lo' = first_le t more s later b a (λ n. sym (e n)) in
    let f : s.first ≡ t.first = omega (arith, lo, lo') in
    let hi = last_le s later t more a f a.0 e in
    let hi' = last_le t more s later b (sym f) b.0 (λ n. sym (e n)) in
    let same : s ≡ t = same_first s t f (omega (arith, hi, hi')) in
    let b' : Apart (s ∷ more) = subst (λ (u : Span). Apart (u ∷ more)) (sym same) b in
    let e' : (n : ℕ) → knows (s ∷ later) n ≡ knows (s ∷ more) n = λ n. subst (λ (u : Span). knows (s ∷ later) n ≡ knows (u ∷ more) n) (sym same) (e n) in
    ap (λ (zs : List Span). s ∷ zs) (same_spans later more a.2 b.2 (λ n. rest_same s later more n a b' (e' n))) ∙ ap (λ (u : Span). u ∷ more) same

-- ---- what follows for additions

or_swap : (a b c : Bool) → (a || (b || c)) ≡ (b || (a || c))
or_swap true true c = refl
or_swap true false c = refl
or_swap false true c = refl
or_swap false false c = refl

-- two additions may change places
pub add_swap : (a b c d : ℕ) (ss : List Span) → a ≤ b → c ≤ d → Apart ss → add_span a b (add_span c d ss) ≡ add_span c d (add_span a b ss)
add_swap a b c d ss ab cd h =
    let f = apart_formed ss h in
    same_spans (add_span a b (add_span c d ss)) (add_span c d (add_span a b ss)) (apart_add a b (add_span c d ss) ab (apart_add c d ss cd h)) (apart_add c d (add_span a b ss) cd (apart_add a b ss ab h))
    (λ n.
    knows_add a b (add_span c d ss) n ab (formed_add c d ss cd f)
    ∙ (ap (λ x. covers n (span a b) || x) (knows_add c d ss n cd f)
    ∙ (or_swap (covers n (span a b)) (covers n (span c d)) (knows ss n)
    ∙ sym (knows_add c d (add_span a b ss) n cd (formed_add a b ss ab f) ∙ ap (λ x. covers n (span c d) || x) (knows_add a b ss n ab f)))))

covers_next : (t f n m : ℕ) (k : Bool) → n ≤ max t f + 1
    → ((nat_le 0 m && nat_le m (max f n)) || ((nat_le 0 m && nat_le m t) || k)) ≡ ((nat_le n m && nat_le m n) || ((nat_le 0 m && nat_le m f) || ((nat_le 0 m && nat_le m t) || k)))
covers_next t f n m k le = grind (arith, nat_tests)

-- a number that touches those through a forward number
pub add_next : (t f n : ℕ) (above : List Span) → Apart (span 0 t ∷ above) → n ≤ max t f + 1 → add_span 0 (max f n) (span 0 t ∷ above) ≡ add_span n n (add_span 0 f (span 0 t ∷ above))
add_next t f n above h le =
    let ss : List Span = span 0 t ∷ above in
    let formed = apart_formed ss h in
    same_spans (add_span 0 (max f n) ss) (add_span n n (add_span 0 f ss)) (apart_add 0 (max f n) ss (omega arith) h) (apart_add n n (add_span 0 f ss) (omega arith) (apart_add 0 f ss (omega arith) h))
    (λ m.
    knows_add 0 (max f n) ss m (omega arith) formed
    ∙ (covers_next t f n m (knows above m) le
    ∙ sym (knows_add n n (add_span 0 f ss) m (omega arith) (formed_add 0 f ss (omega arith) formed) ∙ ap (λ x. covers m (span n n) || x) (knows_add 0 f ss m (omega arith) formed))))
