-- Attempts by a word of each, as long as no two have had one word.
use Rattle.std.proofs.Common.{ℕ, ◌≡◌, ◌==◌, ◌⊎◌, Bool, true, false, Option, Some, None, List, refl, sym, ap, ◌∙◌, arith, ⊎_elim, inl, inr}
use Rattle.std.specs.FinMap.{get, insert, remove}
use Rattle.std.proofs.lemmas.Bool.{cases_Bool}
use Rattle.std.proofs.lemmas.Bool.Decides.{nat_tests}
use Rattle.std.proofs.lemmas.Option.{none-some, same_Some}
use Rattle.rtmfp_base.proofs.Maps.{found_inserted, found_left, get_inserted, get_beside, get_left}
use Rattle.rtmfp_base.proofs.Lowest.{lowest_is_first, none_is_first}
use Rattle.glare_core.proofs.Tails.{same_end}
use Rattle.startup.specs.declared.aim.Aim.{Aim}
use Rattle.startup.specs.declared.aim.Aim.TheVariants.{AtPeer, ByName}
use Rattle.startup.specs.Aims.{aim_word, is_numbered}
use Rattle.startup.specs.State.{AttemptState, Attempts}
use Rattle.startup.specs.Attempts.{lowest, has_number, has_tag}
use Rattle.startup.specs.declared.attempt.Change.{Change}
use Rattle.startup.specs.declared.attempt.Change.TheVariants.{Answered, Met, Recookied, Extended, Repeated}
use Rattle.startup.specs.Sought.{IsChosenWith, change_of, number_got}
use Rattle.startup.specs.Table.{with_changed, in_attempt}
use Rattle.startup.specs.Indexed.{Words, IsIndexed, IsFoundBy, IsPut, IsTaken, number_word, tag_word}
use Rattle.startup.specs.Words.{word_of}

module _ (word : AttemptState → Option ℕ) (old new : Words) (attempts : Attempts) (is : IsIndexed word old attempts) where
  -- the near id of an attempt under its word, where it has one, and others under theirs
  comes : (near : ℕ) (o : Option ℕ) → IsPut o near old new → (q : ℕ) (b : AttemptState) (w : ℕ) → new.whole ≡ true → word b ≡ Some w →
      ((q ≡ near) × (o ≡ Some w)) ⊎ (get attempts q ≡ Some b) → get new.nears w ≡ Some q
  comes near None put q b w whole has (inl here) = absurd (let clash : None ≡ Some w = here.1 in cc)
  comes near None put q b w whole has (inr there) =
      ap (λ (x : Words). get x.nears w) put ∙ is (sym (ap (λ (x : Words). x.whole) put) ∙ whole) q b w there has
  comes near (Some v) put q b w whole has (inl here) =
      let same : v ≡ w = same_Some v w here.1 in
      ap (λ m. get m w) (put whole).2 ∙ ap (get (insert old.nears v near)) (sym same) ∙ get_inserted old.nears v near ∙ ap (λ (k : ℕ). Some k) (sym here.0)
  comes near (Some v) put q b w whole has (inr there) =
      let before : get old.nears w ≡ Some q = is (put whole).0 q b w there has in
      ap (λ m. get m w) (put whole).2 ∙ get_beside old.nears v near w (λ same. none-some q (sym (put whole).1 ∙ ap (get old.nears) (sym same) ∙ before)) ∙ before

  -- an attempt comes
  pub put_is_indexed : (near : ℕ) (a : AttemptState) → IsPut (word a) near old new → IsIndexed word new (insert attempts near a)
  put_is_indexed near a put whole q b w there has = elim (found_inserted attempts near a q b there) [
    | inl here ↦ comes near (word a) put q b w whole has (inl (here.0, ap word here.1 ∙ has))
    | inr other ↦ comes near (word a) put q b w whole has (inr other.1)
  ]

  -- an attempt gets a word, or keeps that which it had
  pub got_is_indexed : (near : ℕ) (o : Option ℕ) (change : AttemptState → AttemptState) → IsPut o near old new →
      ((a : AttemptState) (w : ℕ) → word (change a) ≡ Some w → (o ≡ Some w) ⊎ (word a ≡ Some w)) → IsIndexed word new (in_attempt change attempts near)
  got_is_indexed near o change put gets whole q b w = go (get attempts near) refl
    where
      go : (found : Option AttemptState) → get attempts near ≡ found → get (with_changed change attempts near found) q ≡ Some b → word b ≡ Some w → get new.nears w ≡ Some q
      go None e there has = comes near o put q b w whole has (inr there)
      go (Some a) e there has = elim (found_inserted attempts near (change a) q b there) [
        | inl here ↦ elim (gets a w (ap word here.1 ∙ has)) [
          | inl new_one ↦ comes near o put q b w whole has (inl (here.0, new_one))
          | inr kept ↦ comes near o put q a w whole kept (inr (ap (get attempts) here.0 ∙ e))
        ]
        | inr other ↦ comes near o put q b w whole has (inr other.1)
      ]

  -- an attempt goes
  gone_by : (near : ℕ) (a : AttemptState) (o : Option ℕ) → get attempts near ≡ Some a → word a ≡ o → IsTaken o old new → IsIndexed word new (remove attempts near)
  gone_by near a None at no_word taken whole q b w there has =
      ap (λ (x : Words). get x.nears w) taken ∙ is (sym (ap (λ (x : Words). x.whole) taken) ∙ whole) q b w (found_left attempts near q b there).1 has
  gone_by near a (Some v) at own taken whole q b w there has =
      let other = found_left attempts near q b there in
      let was : old.whole ≡ true = sym taken.0 ∙ whole in
      let before : get old.nears w ≡ Some q = is was q b w other.1 has in
      ap (λ m. get m w) taken.1 ∙ get_left old.nears v w (λ alike. other.0 (same_Some q near (sym before ∙ ap (get old.nears) alike ∙ is was near a v at own))) ∙ before

  pub gone_is_indexed : (near : ℕ) (a : AttemptState) → get attempts near ≡ Some a → IsTaken (word a) old new → IsIndexed word new (remove attempts near)
  gone_is_indexed near a at taken = gone_by near a (word a) at refl taken

module _ (word : AttemptState → Option ℕ) (words : Words) (attempts : Attempts) (is : IsIndexed word words attempts) where
  -- none goes
  pub left_is_indexed : (near : ℕ) → IsIndexed word words (remove attempts near)
  left_is_indexed near whole q b w there has = is whole q b w (found_left attempts near q b there).1 has

  -- an attempt changes, and its word stays
  pub changed_is_indexed : (near : ℕ) (change : AttemptState → AttemptState) → ((a : AttemptState) → word (change a) ≡ word a) → IsIndexed word words (in_attempt change attempts near)
  changed_is_indexed near change stays = got_is_indexed word words words attempts is near None change refl (λ a w has. inr (sym (stays a) ∙ has))

-- the number that an attempt has after a change is the one that it got, or the one that it had
pub number_after : (change : Change) (moment : ℕ) (a : AttemptState) (w : ℕ) → number_word (change_of change moment a) ≡ Some w → (number_got change ≡ Some w) ⊎ (number_word a ≡ Some w)
number_after (Answered from cookie under) moment a w has = inr has
number_after (Met peer n from cookie under) moment a w has = inl has
number_after (Recookied new) moment a w has = inr has
number_after (Extended new) moment a w has = inr has
number_after Repeated moment a w has = inr has

pub tag_stays : (change : Change) (moment : ℕ) (a : AttemptState) → tag_word (change_of change moment a) ≡ tag_word a
tag_stays (Answered from cookie under) moment a = refl
tag_stays (Met peer n from cookie under) moment a = refl
tag_stays (Recookied new) moment a = refl
tag_stays (Extended new) moment a = refl
tag_stays Repeated moment a = refl

same_number : (m n : ℕ) → (m == n) ≡ true → m ≡ n
same_number m n t = grind (arith, nat_tests)

-- the attempt with this number has it as its word
numbered : (number : ℕ) (aim : Aim) → is_numbered number aim ≡ true → aim_word aim ≡ Some number
numbered number (AtPeer peer n) t = ap (λ (k : ℕ). Some k) (same_number n number t)
numbered number (ByName name) t = absurd (let clash : false ≡ true = t in cc)

pub found_by_number : (words : Words) (attempts : Attempts) (n : ℕ) → IsIndexed number_word words attempts → IsFoundBy (has_number n) words n attempts
found_by_number words attempts n is whole near a there t = is whole near a n there (numbered n a.aim t)

pub found_by_tag : (words : Words) (attempts : Attempts) (tag : List ℕ) → IsIndexed tag_word words attempts → IsFoundBy (has_tag tag) words (word_of tag) attempts
found_by_tag words attempts tag is whole near a there t = elim (same_end a.tag tag) [
  | inl same ↦ is whole near a (word_of tag) there (ap (λ (b : List ℕ). Some (word_of b)) same.0)
  | inr other ↦ absurd (let clash : false ≡ true = sym other.1 ∙ t in cc)
]

-- ---- what is found by a word

module _ (test : AttemptState → Bool) (words : Words) (word : ℕ) (attempts : Attempts) (is : IsFoundBy test words word attempts) (whole : words.whole ≡ true) where
  pub none_by_word : get words.nears word ≡ None → lowest test attempts ≡ None
  none_by_word none = none_is_first test attempts (λ j w there. ⊎_elim (λ t. absurd (none-some j (sym none ∙ is whole j w there t))) (λ f. f) (cases_Bool (test w)))

  module _ (near : ℕ) (at : get words.nears word ≡ Some near) where
    only : (j : ℕ) (w : AttemptState) → get attempts j ≡ Some w → test w ≡ true → j ≡ near
    only j w there t = same_Some j near (sym (is whole j w there t) ∙ at)

    pub one_by_word : (a : AttemptState) → get attempts near ≡ Some a → test a ≡ true → IsChosenWith (lowest test attempts) attempts near a
    one_by_word a there t = record {
      chosen_is = lowest_is_first test attempts near a there t (λ j w lt other. ⊎_elim (λ u. absurd (let e = only j w other u in omega (arith, lt, e))) (λ f. f) (cases_Bool (test w)));
      there = there;
    }

    -- the attempt under that near id isn't sought, or there is none
    pub not_by_word : ((a : AttemptState) → get attempts near ≡ Some a → test a ≡ false) → lowest test attempts ≡ None
    not_by_word fails = none_is_first test attempts (λ j w there. ⊎_elim (λ t. absurd (let f = fails w (ap (get attempts) (sym (only j w there t)) ∙ there) in let clash : false ≡ true = sym f ∙ t in cc)) (λ f. f) (cases_Bool (test w)))
