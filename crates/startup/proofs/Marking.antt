-- Marks in their order, those of attempts, and how one is found.
use Rattle.std.proofs.Common.{ℕ, ◌≡◌, ◌<◌, ◌≤◌, ◌+◌, ◌-◌, ◌&&◌, Bool, true, false, nat_lt, List, length, Option, Some, None, refl, sym, ap, ◌∙◌, subst, arith, inl, inr, ⊎_elim}
use Rattle.std.specs.FinMap.{get, insert, remove}
use Rattle.std.proofs.lemmas.Bool.{cases_Bool, cases_lt}
use Rattle.std.proofs.lemmas.Bool.Decides.{nat_tests}
use Rattle.rtmfp_base.proofs.Maps.{found_inserted, found_left}
use Rattle.rtmfp_base.proofs.Lowest.{lowest_is_first, none_is_first}
use Rattle.startup.specs.declared.marks.Mark.{Mark}
use Rattle.startup.specs.State.{AttemptState, Attempts}
use Rattle.glare_core.proofs.Tails.{same_end}
use Rattle.startup.specs.declared.attempt.Stage.{Stage}
use Rattle.startup.specs.declared.attempt.Stage.TheVariants.{Hello, Keying}
use Rattle.startup.specs.Attempts.{lowest, has_cookie, is_cookie_of}
use Rattle.startup.specs.Sought.{IsChosenWith}
use Rattle.startup.specs.Table.{with_changed, in_attempt}
use Rattle.startup.specs.Words.{cookie_word}
use Rattle.startup.specs.Marks.{Marked, is_whole_then, IsUpTo, IsAscending, IsPlace, Stands, mark_at, mark_in, mark_of, IsMarked, IsMarkedBut, passes_in, AreFrom}

-- ---- another mark comes

module _ (old new : List Mark) (at : ℕ) (longer : length new ≡ length old + 1) (below : (k : ℕ) → k < at → mark_at new k ≡ mark_at old k)
    (above : (k : ℕ) → at < k → mark_at new k ≡ mark_at old (k - 1)) where
  pub rest_stands : (other : Mark) → Stands old other → Stands new other
  rest_stands other was = elim (cases_lt was.at at) [
    | inl b ↦ record { at = was.at; least = omega arith; inside = omega (arith, was.inside, longer); here = below was.at b ∙ was.here }
    | inr le ↦ record {
      at = was.at + 1;
      least = omega arith;
      inside = omega (arith, was.inside, longer);
      here = above (was.at + 1) (omega arith) ∙ ap (mark_at old) (omega arith) ∙ was.here;
    }
  ]

-- there is no room for it
pub full_is_not_whole : (m : Marked) → m.room ≤ length m.marks → false ≡ is_whole_then m
full_is_not_whole m full = go m.whole
  where
    no_more : nat_lt (length m.marks) m.room ≡ false
    no_more = grind (arith, nat_tests)

    go : (b : Bool) → false ≡ (b && nat_lt (length m.marks) m.room)
    go true = sym no_more
    go false = refl

-- ---- the marks of attempts

module _ (marked : Marked) (attempts : Attempts) (near : ℕ) where
  pub but_kept : (a : AttemptState) → IsMarked marked attempts → IsMarkedBut near marked (insert attempts near a)
  but_kept a is whole q b mark apart there has = elim (found_inserted attempts near a q b there) [
    | inl here ↦ absurd (apart here.0)
    | inr other ↦ is whole q b mark other.1 has
  ]

  pub whole_left : IsMarkedBut near marked attempts → IsMarked marked (remove attempts near)
  whole_left but whole q b mark there has = let other = found_left attempts near q b there in but whole q b mark other.0 other.1 has

  module _ (change : AttemptState → AttemptState) where
    pub but_changed : IsMarkedBut near marked attempts → IsMarkedBut near marked (in_attempt change attempts near)
    but_changed but whole q b mark apart = go (get attempts near)
      where
        go : (o : Option AttemptState) → get (with_changed change attempts near o) q ≡ Some b → mark_of b q ≡ Some mark → Stands marked.marks mark
        go None there has = but whole q b mark apart there has
        go (Some a) there has = elim (found_inserted attempts near (change a) q b there) [
          | inl here ↦ absurd (apart here.0)
          | inr other ↦ but whole q b mark apart other.1 has
        ]

    -- the mark of the attempt stays as well
    pub whole_changed : ((a : AttemptState) (q : ℕ) → mark_of (change a) q ≡ mark_of a q) → IsMarked marked attempts → IsMarked marked (in_attempt change attempts near)
    whole_changed keeps is whole q b mark = go (get attempts near) refl
      where
        go : (o : Option AttemptState) → get attempts near ≡ o → get (with_changed change attempts near o) q ≡ Some b → mark_of b q ≡ Some mark → Stands marked.marks mark
        go None e there has = is whole q b mark there has
        go (Some a) e there has = elim (found_inserted attempts near (change a) q b there) [
          | inl here ↦ is whole q a mark (ap (get attempts) here.0 ∙ e) (sym (keeps a q) ∙ ap (λ x. mark_of x q) here.1 ∙ has)
          | inr other ↦ is whole q b mark other.1 has
        ]

-- there is more room
pub marked_is : (old new : Marked) (attempts : Attempts) → new.marks ≡ old.marks → new.whole ≡ old.whole → IsMarked old attempts → IsMarked new attempts
marked_is old new attempts same still is whole near a mark there has = subst (λ l. Stands l mark) (sym same) (is (sym still ∙ whole) near a mark there has)

-- while there was room, those with a cookie stand under its word
pub found_by_cookie : (marked : Marked) (attempts : Attempts) (cookie : List ℕ) → IsMarked marked attempts → marked.whole ≡ true → AreFrom (has_cookie cookie) marked.marks 0 (cookie_word cookie) attempts
found_by_cookie marked attempts cookie is whole near a there = go a.stage refl
  where
    go : (s : Stage) → a.stage ≡ s → is_cookie_of cookie s ≡ true → Stands marked.marks (record { word = cookie_word cookie; near = near })
    go Hello e t = absurd (let clash : false ≡ true = t in cc)
    go (Keying at kept under) e t = elim (same_end kept cookie) [
      | inl same ↦ is whole near a _ there (ap (λ s. mark_in s near) e ∙ ap (λ (b : List ℕ). mark_in (Keying at b under) near) same.0)
      | inr other ↦ absurd (let clash : false ≡ true = sym other.1 ∙ t in cc)
    ]

-- ---- what is sought under a word

module _ (test : AttemptState → Bool) (marks : List Mark) (word : ℕ) (attempts : Attempts) (at : ℕ) where
  -- those of the word stand from its place on
  pub from_place : IsPlace marks (record { word = word; near = 0 }) at → AreFrom test marks 0 word attempts → AreFrom test marks at word attempts
  from_place spot all near a there t =
      let was = all near a there t in
      elim (cases_lt was.at at) [
        | inl b ↦
            let low : (mark_at marks was.at).near < 0 = (spot.before was.at b).nears (ap (λ (m : Mark). m.word) was.here) in
            absurd (omega (arith, low))
        | inr le ↦ record { at = was.at; least = le; inside = was.inside; here = was.here }
      ]

  module _ (from : AreFrom test marks at word attempts) where
    -- the attempt of this mark isn't sought
    pub from_next : passes_in test (get attempts (mark_at marks at).near) ≡ false → AreFrom test marks (at + 1) word attempts
    from_next fails near a there t =
        let was = from near a there t in
        elim (cases_lt at was.at) [
          | inl lt ↦ record { at = was.at; least = omega arith; inside = was.inside; here = was.here }
          | inr le ↦
              let same : at ≡ was.at = omega (arith, le, was.least) in
              let found : get attempts (mark_at marks at).near ≡ Some a = ap (λ k. get attempts (mark_at marks k).near) same ∙ ap (λ (m : Mark). get attempts m.near) was.here ∙ there in
              absurd (let clash : false ≡ true = sym fails ∙ ap (passes_in test) found ∙ t in cc)
        ]

    -- all marks were looked at
    pub none_left : length marks ≤ at → lowest test attempts ≡ None
    none_left end = none_is_first test attempts (λ j w there. ⊎_elim
        (λ t. absurd (let was = from j w there t in omega (arith, was.least, was.inside, end)))
        (λ f. f) (cases_Bool (test w)))

    module _ (order : IsAscending marks) (inside : at < length marks) where
      -- the mark has another word
      pub none_further : IsUpTo (record { word = word; near = 0 }) (mark_at marks at) → ((mark_at marks at).word ≡ word → ⊥) → lowest test attempts ≡ None
      none_further up other = none_is_first test attempts (λ j w there. ⊎_elim
          (λ t. absurd (
          let was = from j w there t in
          let below = (order at was.at was.least was.inside).words in
          let is : (mark_at marks was.at).word ≡ word = ap (λ (m : Mark). m.word) was.here in
          let least = up.words in
          other (omega (arith, below, is, least))))
          (λ f. f) (cases_Bool (test w)))

      -- the attempt of this mark is sought
      pub first_is_lowest : (a : AttemptState) → (mark_at marks at).word ≡ word → get attempts (mark_at marks at).near ≡ Some a → test a ≡ true → IsChosenWith (lowest test attempts) attempts (mark_at marks at).near a
      first_is_lowest a word_is e t = record {
        chosen_is = lowest_is_first test attempts (mark_at marks at).near a e t (λ j w lt there. ⊎_elim
            (λ u. absurd (
            let was = from j w there u in
            let is = was.here in
            let up = (order at was.at was.least was.inside).nears (word_is ∙ sym (ap (λ (m : Mark). m.word) is)) in
            let near : (mark_at marks was.at).near ≡ j = ap (λ (m : Mark). m.near) is in
            omega (arith, up, near, lt)))
            (λ f. f) (cases_Bool (test w)));
        there = e;
      }
