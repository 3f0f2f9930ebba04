-- How many bytes the tags and cookies of attempts have.
use Rattle.std.proofs.Common.{ℕ, ◌≡◌, ◌<◌, ◌≤◌, false, List, length, Option, Some, None, refl, sym, ap, ◌∙◌, subst, arith, inl, inr}
use Rattle.std.specs.FinMap.{get, insert, remove}
use Rattle.rtmfp_base.proofs.Maps.{found_inserted, found_left}
use Rattle.rtmfp_base.proofs.Lowest.{none_is_first}
use Rattle.glare_core.proofs.Tails.{same_end}
use Rattle.startup.specs.declared.attempt.Stage.{Stage}
use Rattle.startup.specs.declared.attempt.Stage.TheVariants.{Hello, Keying}
use Rattle.startup.specs.declared.attempt.Change.{Change}
use Rattle.startup.specs.declared.attempt.Change.TheVariants.{Answered, Met, Recookied, Extended, Repeated}
use Rattle.startup.specs.State.{AttemptState, Attempts}
use Rattle.startup.specs.Attempts.{lowest, has_tag, has_cookie, is_cookie_of, with_cookie}
use Rattle.startup.specs.Sought.{change_of, Allows}
use Rattle.startup.specs.Table.{with_changed, in_attempt}
use Rattle.startup.specs.Indexed.{cookie_length, IsSized, AreSized}

module _ (attempts : Attempts) (near : ℕ) (are : AreSized attempts) where
  -- an attempt comes, goes or changes
  pub kept_are_sized : (a : AttemptState) → IsSized a → AreSized (insert attempts near a)
  kept_are_sized a is q b there = elim (found_inserted attempts near a q b there) [
    | inl here ↦ subst IsSized here.1 is
    | inr other ↦ are q b other.1
  ]

  pub left_are_sized : AreSized (remove attempts near)
  left_are_sized q b there = are q b (found_left attempts near q b there).1

  pub changed_are_sized : (change : AttemptState → AttemptState) → ((a : AttemptState) → get attempts near ≡ Some a → IsSized a → IsSized (change a)) → AreSized (in_attempt change attempts near)
  changed_are_sized change keeps q b = go (get attempts near) refl
    where
      go : (o : Option AttemptState) → get attempts near ≡ o → get (with_changed change attempts near o) q ≡ Some b → IsSized b
      go None e there = are q b there
      go (Some a) e there = elim (found_inserted attempts near (change a) q b there) [
        | inl here ↦ subst IsSized here.1 (keeps a e (are near a e))
        | inr other ↦ are q b other.1
      ]

recookied_is_narrow : (new : List ℕ) (s : Stage) → length new ≤ 128 → cookie_length (with_cookie new s) ≤ 128
recookied_is_narrow new Hello narrow = omega arith
recookied_is_narrow new (Keying at old under) narrow = narrow

-- there is room for what comes with a change
pub change_is_sized : (change : Change) (moment : ℕ) (a : AttemptState) → Allows change a → IsSized a → IsSized (change_of change moment a)
change_is_sized (Answered from cookie under) moment a allows is = record { tag = is.tag; cookie = allows }
change_is_sized (Met peer n from cookie under) moment a allows is = record { tag = is.tag; cookie = allows }
change_is_sized (Recookied new) moment a allows is = record { tag = is.tag; cookie = recookied_is_narrow new.now a.stage allows }
change_is_sized (Extended new) moment a allows is = record { tag = is.tag; cookie = is.cookie }
change_is_sized Repeated moment a allows is = record { tag = is.tag; cookie = is.cookie }

-- ---- no attempt has a tag or a cookie of another size

pub no_such_tag : (attempts : Attempts) (tag : List ℕ) → AreSized attempts → (length tag ≡ 16 → ⊥) → lowest (has_tag tag) attempts ≡ None
no_such_tag attempts tag are other = none_is_first (has_tag tag) attempts (λ j w there. elim (same_end w.tag tag) [
  | inl same ↦ absurd (other (ap (λ (l : List ℕ). length l) (sym same.0) ∙ (are j w there).tag))
  | inr apart ↦ apart.1
])

isnt_cookie : (cookie : List ℕ) (s : Stage) → 128 < length cookie → cookie_length s ≤ 128 → is_cookie_of cookie s ≡ false
isnt_cookie cookie Hello wide narrow = refl
isnt_cookie cookie (Keying at kept under) wide narrow = elim (same_end kept cookie) [
  | inl same ↦ absurd (let e : length kept ≡ length cookie = ap (λ (l : List ℕ). length l) same.0 in omega (arith, e, wide, narrow))
  | inr apart ↦ apart.1
]

pub no_such_cookie : (attempts : Attempts) (cookie : List ℕ) → AreSized attempts → 128 < length cookie → lowest (has_cookie cookie) attempts ≡ None
no_such_cookie attempts cookie are wide = none_is_first (has_cookie cookie) attempts (λ j w there. isnt_cookie cookie w.stage wide (are j w there).cookie)
