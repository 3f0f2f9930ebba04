-- Messages lie one after another, and each number is of at most one.
use Rattle.std.proofs.Common.{◌≡◌, ℕ, ◌+◌, ◌*◌, ◌/◌, ◌<◌, ◌≤◌, nat_le, nat_lt, cond, Bool, true, false, List, [], ◌∷◌, length, Some, None, refl, ap, sym, ◌∙◌, subst, arith, inl, inr}
use Rattle.std.proofs.lemmas.Bool.{cases_eq, ltb-true, leb-true, lt-ltb, le-leb, lt-leb}
use Rattle.std.proofs.lemmas.Bool.Decides.{nat_tests}
use Rattle.rtmfp_data_chunks.specs.declared.user_data.Part.TheVariants.{Whole, Begin, End, Middle}
use Rattle.rtmfp_data_chunks.specs.Fragments.{Message, Fragment, Spans, fragment_of, fragment_at, fragment_count, fragments_of_length, next_number, part_of}
use Rattle.rtmfp_data_chunks.specs.HandsOver.{IsIn}

-- each message begins where the one before it ended, and the first one at first
abbrev pub Laid : ℕ → List Message → Type 0
Laid first [] = Unit {0}
Laid first (m ∷ earlier) = (m.number ≡ next_number first earlier) × Laid first earlier

pub count_covers : (n : ℕ) → (0 < fragments_of_length n) × (n ≤ 1000 * fragments_of_length n) × (0 < n → 1000 * fragments_of_length n < n + 1000)
count_covers n = elim (cases_eq n 0) [
  | inl e ↦ rw e (omega arith, omega arith, omega arith)
  | inr ne ↦
      let P : ℕ → Type 0 = λ c. (0 < c) × (n ≤ 1000 * c) × (0 < n → 1000 * c < n + 1000) in
      let e : (n + 999) / 1000 ≡ fragments_of_length n = grind (arith, nat_tests) in
      subst P e (omega arith, omega arith, omega arith)
]

pub count_positive : (m : Message) → 0 < fragment_count m
count_positive m = (count_covers (length m.bytes)).0

-- a message ends before the next number
pub ends_before : (first : ℕ) (qs : List Message) (m : Message) → Laid first qs → IsIn m qs → m.number + fragment_count m ≤ next_number first qs
ends_before first [] m laid h = absurd h
ends_before first (q ∷ qs) m laid (inl e) = rw e (omega arith)
ends_before first (q ∷ qs) m laid (inr h) = omega (arith, ends_before first qs m laid.1 h, laid.0)

-- and begins at or after the first one
pub first_below : (first : ℕ) (qs : List Message) → Laid first qs → first ≤ next_number first qs
first_below first [] laid = omega arith
first_below first (q ∷ qs) laid = omega (arith, first_below first qs laid.1, laid.0)

pub begins_after : (first : ℕ) (qs : List Message) (m : Message) → Laid first qs → IsIn m qs → first ≤ m.number
begins_after first [] m laid h = absurd h
begins_after first (q ∷ qs) m laid (inl e) = rw e (omega (arith, first_below first qs laid.1, laid.0))
begins_after first (q ∷ qs) m laid (inr h) = begins_after first qs m laid.1 h

-- of two messages, one lies before the other, or they are one
pub data Order (a b : Message) : Type 0 where
  Same : a ≡ b → Order a b
  Before : a.number + fragment_count a ≤ b.number → Order a b
  After : b.number + fragment_count b ≤ a.number → Order a b

pub order : (first : ℕ) (qs : List Message) (a b : Message) → Laid first qs → IsIn a qs → IsIn b qs → Order a b
order first [] a b laid h k = absurd h
order first (q ∷ qs) a b laid (inl e) (inl f) = Same (e ∙ sym f)
order first (q ∷ qs) a b laid (inl e) (inr k) = After (rw e (omega (arith, ends_before first qs b laid.1 k, laid.0)))
order first (q ∷ qs) a b laid (inr h) (inl f) = Before (rw f (omega (arith, ends_before first qs a laid.1 h, laid.0)))
order first (q ∷ qs) a b laid (inr h) (inr k) = order first qs a b laid.1 h k

-- a number is of one message
pub same_message : (first : ℕ) (qs : List Message) (a b : Message) (n : ℕ) → Laid first qs → IsIn a qs → IsIn b qs → Spans a n → Spans b n → a ≡ b
same_message first qs a b n laid h k sa sb = elim (order first qs a b laid h k) [
  | Same e ↦ e
  | Before le ↦ absurd (omega arith)
  | After le ↦ absurd (omega arith)
]

-- the fragment of a number is that of the message that spans it
pub found : (first : ℕ) (qs : List Message) (m : Message) (n : ℕ) → Laid first qs → IsIn m qs → Spans m n → fragment_of qs n ≡ Some (fragment_at m n)
found first [] m n laid h s = absurd h
found first (q ∷ qs) m n laid (inl e) s =
    let P : Message → Type 0 = λ x. Spans x n → fragment_of (q ∷ qs) n ≡ Some (fragment_at x n) in
    subst P (sym e) (λ t. rw (le-leb q.number n t.0, lt-ltb n (q.number + fragment_count q) t.1) refl) s
found first (q ∷ qs) m n laid (inr h) s =
    let below : n < q.number = omega (arith, ends_before first qs m laid.1 h, laid.0) in
    rw (lt-leb q.number n below) (found first qs m n laid.1 h s)

pub record Located (qs : List Message) (n : ℕ) (f : Fragment) : Type 0 where
  pub message : Message
  pub was_queued : IsIn message qs
  pub spans : Spans message n
  pub is : f ≡ fragment_at message n

located_with : (q : Message) (qs : List Message) (n : ℕ) (f : Fragment) (a b : Bool) → nat_le q.number n ≡ a → nat_lt n (q.number + fragment_count q) ≡ b
    → (fragment_of qs n ≡ Some f → Located qs n f)
    → cond a (cond b (Some (fragment_at q n)) None) (fragment_of qs n) ≡ Some f → Located (q ∷ qs) n f
located_with q qs n f true true ea eb ih e =
    record { message = q; was_queued = inl refl; spans = (leb-true q.number n ea, ltb-true n (q.number + fragment_count q) eb); is = cc }
located_with q qs n f true false ea eb ih e = absurd cc
located_with q qs n f false b ea eb ih e =
    let l = ih e in record { message = l.message; was_queued = inr l.was_queued; spans = l.spans; is = l.is }

-- and a number with a fragment is spanned by a message
pub located : (qs : List Message) (n : ℕ) (f : Fragment) → fragment_of qs n ≡ Some f → Located qs n f
located [] n f e = absurd cc
located (q ∷ qs) n f e = located_with q qs n f (nat_le q.number n) (nat_lt n (q.number + fragment_count q)) refl refl (located qs n f) e

-- a message that is queued later changes the fragment of no number that has one
pub found_still : (first : ℕ) (m : Message) (qs : List Message) (n : ℕ) (f : Fragment) → Laid first (m ∷ qs) → fragment_of qs n ≡ Some f → fragment_of (m ∷ qs) n ≡ Some f
found_still first m qs n f laid e =
    let l = located qs n f e in
    found first (m ∷ qs) l.message n laid (inr l.was_queued) l.spans ∙ ap (λ x. Some x) (sym l.is)

-- what the part of a fragment tells of its ordinal
pub part_whole : (count k : ℕ) → part_of count k ≡ Whole → k < count → (k ≡ 0) × (count ≡ 1)
part_whole count k e lt = grind (arith, nat_tests)

pub part_begin : (count k : ℕ) → part_of count k ≡ Begin → k < count → (k ≡ 0) × (k + 1 < count)
part_begin count k e lt = grind (arith, nat_tests)

pub part_middle : (count k : ℕ) → part_of count k ≡ Middle → k < count → (0 < k) × (k + 1 < count)
part_middle count k e lt = grind (arith, nat_tests)

pub part_end : (count k : ℕ) → part_of count k ≡ End → k < count → (0 < k) × (k + 1 ≡ count)
part_end count k e lt = grind (arith, nat_tests)
