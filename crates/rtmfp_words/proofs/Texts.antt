-- Texts of words, and optional values.
use Rattle.std.proofs.Common.{◌≡◌, ◌≢◌, ◌⊎◌, ℕ, ◌^◌, ◌<◌, ◌==◌, Bool, true, false, List, [], ◌∷◌, ◌++◌, length, Option, Some, None, refl, sym, ap, ◌∙◌, arith, inl, inr}
use Rattle.std.specs.Prelude.{if◌then◌else◌, map, IfSome, MatchOption, String, string_bytes}
use Rattle.std.specs.Fmt.{decimal}
use Rattle.std.specs.declared.alloc.Global.{Global}
use Rattle.std.proofs.lemmas.Bool.{eq-eqb, eqb-true}
use denote.Ref.{Bor}
use Rattle.rtmfp_script.specs.Fields.{number_of, either}
use Rattle.rtmfp_script.proofs.Numbers.{number_of-some, number_of-decimal}
use Rattle.rtmfp_script.proofs.Splits.{some_some}
use Rattle.rtmfp_words.specs.Reading.{head_of, is_empty, behind_of}

-- ---- what a choice that gave a value shows

pub if-some : {A : Type 0} (test : Bool) (x y : Option A) (z : A) → (if test then x else y) ≡ Some z → ((test ≡ true) × (x ≡ Some z)) ⊎ ((test ≡ false) × (y ≡ Some z))
if-some true x y z h = inl (refl, h)
if-some false x y z h = inr (refl, h)

pub either-some : {A B : Type 0} (none : Option B) (f : A → Option B) (o : Option A) (b : B) → either none f o ≡ Some b → ((a : A) × (o ≡ Some a) × (f a ≡ Some b)) ⊎ (none ≡ Some b)
either-some other f None b h = inr h
either-some other f (Some a) b h = inl (a, refl, h)

-- ---- the first word

pub head-some : (parts : List (List ℕ)) (p : List ℕ × List (List ℕ)) → head_of parts ≡ Some p → parts ≡ p.0 ∷ p.1
unfolding head_of
head-some [] p h = absurd (cc)
head-some (x ∷ parts) p h = let e : (x, parts) ≡ p = some_some _ _ h in ap (λ (q : List ℕ × List (List ℕ)). q.0 ∷ q.1) e

pub no_part : (parts : List (List ℕ)) → is_empty parts ≡ true → parts ≡ []
no_part [] h = refl
no_part (x ∷ parts) h = absurd (cc)

pub head_given : (words : List (String Global)) (word : String Global) (rest : List (String Global)) (text : List ℕ) → words ≡ word ∷ rest → text ≡ string_bytes word → head_of (map string_bytes words) ≡ Some (text, map string_bytes rest)
unfolding head_of
head_given words word rest text is written =
    ap (λ (ws : List (String Global)). head_of (map string_bytes ws)) is
    ∙ ap (λ (t : List ℕ). Some (t, map string_bytes rest)) (sym written)

pub head_missing : (words : List (String Global)) → length words ≡ 0 → head_of (map string_bytes words) ≡ None
unfolding head_of
head_missing [] none = refl
head_missing (word ∷ words) none = absurd (omega arith)

pub some_head : (parts : List (List ℕ)) (p : List ℕ × List (List ℕ)) → head_of parts ≡ Some p → false ≡ is_empty parts
some_head parts p h = sym (ap is_empty (head-some parts p h))

pub no_head : (parts : List (List ℕ)) → head_of parts ≡ None → true ≡ is_empty parts
unfolding head_of
no_head [] h = refl
no_head (x ∷ parts) h = absurd (cc)

-- ---- what stands behind a front

pub behind-some : (front word rest : List ℕ) → behind_of front word ≡ Some rest → word ≡ front ++ rest
unfolding behind_of
behind-some [] word rest h = some_some word rest h
behind-some (x ∷ front) [] rest h = absurd (cc)
behind-some (x ∷ front) (y ∷ word) rest h = elim (if-some (y == x) (behind_of front word) None rest h) [
  | inl same ↦ ap (λ (z : ℕ). z ∷ word) (eqb-true y x same.0) ∙ ap (λ (ys : List ℕ). x ∷ ys) (behind-some front word rest same.1)
  | inr other ↦ absurd (let none : None ≡ Some rest = other.1 in cc)
]

pub behind-gives : (front rest : List ℕ) → behind_of front (front ++ rest) ≡ Some rest
unfolding behind_of
behind-gives [] rest = refl
behind-gives (x ∷ front) rest = let e : (x == x) ≡ true = eq-eqb x x refl in rw (e, behind-gives front rest) refl

pub behind-none : (front word : List ℕ) (o : Option (List ℕ)) → behind_of front word ≡ o → ((rest : List ℕ) → word ≢ front ++ rest) → o ≡ None
behind-none front word None is without = refl
behind-none front word (Some rest) is without = absurd (without rest (behind-some front word rest is))

-- as the strip of a prefix tells it
pub behind_found : (front word : List ℕ) (r : Option (Bor (List ℕ))) → MatchOption r ((rest : List ℕ) → word ≢ front ++ rest) (λ x. word ≡ front ++ x.now) →
    MatchOption r (behind_of front word ≡ None) (λ rest. behind_of front word ≡ Some rest.now)
behind_found front word None without = behind-none front word (behind_of front word) refl without
behind_found front word (Some x) is = ap (behind_of front) is ∙ behind-gives front x.now

-- ---- numbers

number_none : (word : List ℕ) (o : Option ℕ) → number_of word ≡ o → ((n : ℕ) → n < 2 ^ 64 → word ≡ decimal n → None ≡ Some n) → None ≡ o
number_none word None is only = refl
number_none word (Some n) is only = let found = number_of-some word n is in only n found.1 found.0

-- as the reader tells it
pub number_read : (word : List ℕ) (o : Option ℕ) → IfSome o (λ n. (word ≡ decimal n) × (n < 2 ^ 64)) → ((n : ℕ) → n < 2 ^ 64 → word ≡ decimal n → o ≡ Some n) → o ≡ number_of word
number_read word None reads only = number_none word (number_of word) refl only
number_read word (Some n) reads only = sym (ap number_of reads.0 ∙ number_of-decimal n reads.1)
