-- The fields of the lines of flows.
use Rattle.std.proofs.Common.{◌≡◌, ◌≢◌, ℕ, ◌^◌, ◌<◌, ◌≤◌, ◌==◌, false, List, [], ◌∷◌, ◌++◌, drop, Option, Some, None, refl, ap, ◌∙◌, subst, arith, inl, inr}
use Rattle.std.specs.Prelude.{codes, decimal, nat_le, slice_index}
use Rattle.std.proofs.lemmas.Bool.{cases_Bool, eqb-true, ne_eqb, le-leb, leb-true}
use Rattle.hex.specs.Hex.{encode_lower}
use Rattle.rtmfp_text.specs.Words.{bytes_text, number_text}
use Rattle.rtmfp_script.specs.declared.content.Content.{Content}
use Rattle.rtmfp_script.specs.declared.content.Content.TheVariants.{Given, Counting}
use Rattle.rtmfp_script.specs.Grammar.{AreBytes, IsBelow, IsContent, content_text, word_for, words_text}
use Rattle.rtmfp_script.specs.Fields.{split_of, is_hyphen, number_of, number_below, limit_by, hexadecimal_of, counting_of, content_of, either, ◌>>=◌}
use Rattle.rtmfp_script.specs.Lines.{answers_of}
use Rattle.rtmfp_script.proofs.Splits.{some_some, bind_some, only_if-some, Lacks, split_text, split_nothing, split_joined}
use Rattle.rtmfp_script.proofs.Numbers.{number_of-some, number_of-decimal, number_below-some, number_below-decimal}
use Rattle.rtmfp_script.proofs.NamesRead.{rejoin}
use Rattle.rtmfp_script.proofs.Digits.{hyphen_is, hexadecimal_of-some, hexadecimal_of-text}
use Rattle.rtmfp_script.proofs.Addresses.{HasNoSpace, lacks_low, lacks_encoded}

-- ---- numbers with a hyphen for none

lacks_hyphen : (word : List ℕ) → Lacks 45 word → is_hyphen word ≡ false
lacks_hyphen [] lacks = refl
lacks_hyphen (b ∷ []) lacks = ne_eqb b 45 lacks.0
lacks_hyphen (b ∷ c ∷ word) lacks = refl

-- what is read so is a number below this
abbrev pub IsReadAs : (List ℕ → Option ℕ) → ℕ → Type 0
IsReadAs read limit = (word : List ℕ) (number : ℕ) → read word ≡ Some number → (word ≡ decimal number) × (number < limit)

-- each number below this is read so
abbrev pub IsRead : (List ℕ → Option ℕ) → ℕ → Type 0
IsRead read limit = (number : ℕ) → number < limit → read (decimal number) ≡ Some number

pub limit_by-some : (read : List ℕ → Option ℕ) (limit : ℕ) (word : List ℕ) (number : Option ℕ) → IsReadAs read limit → limit_by read word ≡ Some number → (word ≡ number_text number) × IsBelow limit number
unfolding limit_by
limit_by-some read limit word number reads h = elim (cases_Bool (is_hyphen word)) [
  | inl is ↦
      let none : None ≡ number = some_some None number (rw is at h) in
      (hyphen_is word is ∙ ap number_text none, subst (IsBelow limit) none tt)
  | inr other ↦
      let found = bind_some (read word) (λ n. Some (Some n)) number (rw other at h) in
      let same : Some found.0 ≡ number = some_some (Some found.0) number found.2 in
      let is = reads word found.0 found.1 in
      (is.0 ∙ ap number_text same, subst (IsBelow limit) same is.1)
]

pub limit_by-text : (read : List ℕ → Option ℕ) (limit : ℕ) (number : Option ℕ) → limit ≤ 2 ^ 64 → IsRead read limit → IsBelow limit number → limit_by read (number_text number) ≡ Some number
unfolding limit_by
limit_by-text read limit None fits is below = refl
limit_by-text read limit (Some number) fits is below =
    let plain : is_hyphen (decimal number) ≡ false = lacks_hyphen (decimal number) (lacks_low 45 number (omega arith) (omega arith)) in
    rw (plain, is number below) refl

not_hyphen : ◌≢◌ {A = ℕ} 45 32
not_hyphen e = cc e

no_space_alone : HasNoSpace (codes "-")
no_space_alone = record { lacks = (not_hyphen, tt) }

pub no_space_number : (limit : ℕ) (number : Option ℕ) → limit ≤ 2 ^ 64 → IsBelow limit number → HasNoSpace (number_text number)
no_space_number limit None fits below = no_space_alone
no_space_number limit (Some number) fits below = record { lacks = lacks_low 32 number (omega arith) (omega arith) }

pub no_space_bytes : (bytes : List ℕ) → AreBytes bytes → HasNoSpace (bytes_text bytes)
no_space_bytes [] is = no_space_alone
no_space_bytes (b ∷ bytes) is = record { lacks = lacks_encoded 32 (b ∷ bytes) refl is }

-- ---- a number that may stand behind a word

-- a word, and what stands behind it
pub record IsAnswering (rest word : List ℕ) (number : Option ℕ) : Type 0 where
  pub text : rest ≡ words_text (word ∷ word_for number)
  pub below : IsBelow (2 ^ 64) number

answering : (rest : List ℕ) (o : Option (List ℕ × List ℕ)) (p : List ℕ × Option ℕ) → split_of 32 rest ≡ o →
    either (Some (rest, None)) (λ parts. number_of parts.1 >>= λ number. Some (parts.0, Some number)) o ≡ Some p → IsAnswering rest p.0 p.1
answering rest None p cut h =
    let same : (rest, None) ≡ p = some_some (rest, None) p h in
    subst (λ (q : List ℕ × Option ℕ). IsAnswering rest q.0 q.1) same (record { text = refl; below = tt })
answering rest (Some parts) p cut h =
    let found = bind_some (number_of parts.1) (λ number. Some (parts.0, Some number)) p h in
    let same : (parts.0, Some found.0) ≡ p = some_some (parts.0, Some found.0) p found.2 in
    let is = number_of-some parts.1 found.0 found.1 in
    subst (λ (q : List ℕ × Option ℕ). IsAnswering rest q.0 q.1) same (record {
      text = rejoin 32 rest parts.0 parts.1 parts.0 (decimal found.0) (split_joined 32 rest parts cut) refl is.0;
      below = is.1;
    })

pub answers_of-some : (rest : List ℕ) (p : List ℕ × Option ℕ) → answers_of rest ≡ Some p → IsAnswering rest p.0 p.1
unfolding answers_of
answers_of-some rest p h = answering rest (split_of 32 rest) p refl h

pub answers_of-text : (word : List ℕ) (number : Option ℕ) → Lacks 32 word → IsBelow (2 ^ 64) number → answers_of (words_text (word ∷ word_for number)) ≡ Some (word, number)
unfolding answers_of
answers_of-text word None lacks below = rw (split_nothing 32 word lacks) refl
answers_of-text word (Some number) lacks below = rw (split_text 32 word (decimal number) lacks, number_of-decimal number below) refl

-- ---- the bytes of a message

counting_of-some : (digits : List ℕ) (content : Content) → counting_of digits ≡ Some content → (codes "*" ++ digits ≡ content_text content) × IsContent content
unfolding counting_of
counting_of-some digits content h =
    let found = bind_some (number_below (2 ^ 32) digits) _ content h in
    let is = number_below-some (2 ^ 32) digits found.0 found.1 in
    let few = only_if-some (nat_le found.0 2000000) (Counting found.0) content found.2 in
    let fits : found.0 ≤ 2000000 = leb-true _ _ few.0 in
    (ap (λ xs. codes "*" ++ xs) is.0 ∙ ap content_text few.1, subst IsContent few.1 fits)

star_first : (word : List ℕ) → slice_index word 0 ≡ 42 → word ≡ codes "*" ++ drop 1 word
star_first [] e = absurd (omega arith)
star_first (b ∷ word) e = ap (λ (x : ℕ). x ∷ word) e

pub content_of-some : (word : List ℕ) (content : Content) → content_of word ≡ Some content → (word ≡ content_text content) × IsContent content
unfolding content_of
content_of-some word content h = elim (cases_Bool (slice_index word 0 == 42)) [
  | inl is ↦
      let found = counting_of-some (drop 1 word) content (rw is at h) in
      (star_first word (eqb-true _ _ is) ∙ found.0, found.1)
  | inr other ↦
      let found = bind_some (hexadecimal_of word) (λ bytes. Some (Given bytes)) content (rw other at h) in
      let same : Given found.0 ≡ content = some_some _ _ found.2 in
      let is = hexadecimal_of-some word found.0 found.1 in
      (is.0 ∙ ap content_text same, subst IsContent same is.1)
]

-- no star stands in front of digits
not_first : (word : List ℕ) → Lacks 42 word → (slice_index word 0 == 42) ≡ false
not_first [] lacks = refl
not_first (b ∷ word) lacks = ne_eqb b 42 lacks.0

no_star : (bytes : List ℕ) → AreBytes bytes → (slice_index (bytes_text bytes) 0 == 42) ≡ false
no_star [] is = refl
no_star (b ∷ bytes) is = not_first (encode_lower (b ∷ bytes)) (lacks_encoded 42 (b ∷ bytes) refl is)

counting_of-text : (count : ℕ) → count ≤ 2000000 → counting_of (decimal count) ≡ Some (Counting count)
unfolding counting_of
counting_of-text count few =
    rw (number_below-decimal (2 ^ 32) count (omega arith) (omega arith), le-leb count 2000000 few) refl

pub content_of-text : (content : Content) → IsContent content → content_of (content_text content) ≡ Some content
unfolding content_of
content_of-text (Given bytes) is = rw (no_star bytes is, hexadecimal_of-text bytes is) refl
content_of-text (Counting count) is = counting_of-text count is
