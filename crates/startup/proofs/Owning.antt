-- Marks that are those of attempts.
use Rattle.std.proofs.Common.{ℕ, ◌≡◌, Option, Some, None, List, refl, sym, ap, ◌∙◌, inl, inr}
use Rattle.std.specs.FinMap.{get, insert, remove}
use Rattle.std.proofs.lemmas.Option.{none-some, same_Some}
use Rattle.rtmfp_base.proofs.Maps.{get_inserted, get_beside, get_left, same_or_not}
use Rattle.startup.specs.declared.marks.Mark.{Mark}
use Rattle.startup.specs.State.{AttemptState, Attempts}
use Rattle.startup.specs.Table.{with_changed, in_attempt}
use Rattle.startup.specs.Marks.{mark_of, IsOf, AreOf, AreOfOthers}

module _ (marks : List Mark) (attempts : Attempts) (near : ℕ) where
  -- an attempt comes
  pub kept_others : (a : AttemptState) → get attempts near ≡ None → AreOf marks attempts → AreOfOthers near marks (insert attempts near a)
  kept_others a free are mark stands =
      let is = are mark stands in
      let apart : mark.near ≡ near → ⊥ = (λ e. none-some is.attempt (sym free ∙ ap (get attempts) (sym e) ∙ is.there)) in
      (apart, record { attempt = is.attempt; there = get_beside attempts near a mark.near apart ∙ is.there; has = is.has })

  -- one goes
  pub left_are_of : AreOfOthers near marks attempts → AreOf marks (remove attempts near)
  left_are_of others mark stands =
      let other = others mark stands in
      record { attempt = other.1.attempt; there = get_left attempts near mark.near other.0 ∙ other.1.there; has = other.1.has }

  module _ (change : AttemptState → AttemptState) where
    -- one changes
    pub changed_others : AreOfOthers near marks attempts → AreOfOthers near marks (in_attempt change attempts near)
    changed_others others mark stands = let other = others mark stands in (other.0, go other.0 other.1 (get attempts near))
      where
        go : (mark.near ≡ near → ⊥) → IsOf attempts mark → (o : Option AttemptState) → IsOf (with_changed change attempts near o) mark
        go apart is None = is
        go apart is (Some a) = record { attempt = is.attempt; there = get_beside attempts near (change a) mark.near apart ∙ is.there; has = is.has }

    -- one changes, and its mark stays
    pub changed_are_of : ((a : AttemptState) (q : ℕ) → mark_of (change a) q ≡ mark_of a q) → AreOf marks attempts → AreOf marks (in_attempt change attempts near)
    changed_are_of keeps are mark stands = go (are mark stands) (get attempts near) refl
      where
        go : IsOf attempts mark → (o : Option AttemptState) → get attempts near ≡ o → IsOf (with_changed change attempts near o) mark
        go is None e = is
        go is (Some a) e = elim (same_or_not mark.near near) [
          | inl same ↦
              let here : is.attempt ≡ a = same_Some is.attempt a (sym is.there ∙ ap (get attempts) same.0 ∙ e) in
              record {
                attempt = change a;
                there = ap (get (insert attempts near (change a))) same.0 ∙ get_inserted attempts near (change a);
                has = keeps a mark.near ∙ ap (λ x. mark_of x mark.near) (sym here) ∙ is.has;
              }
          | inr apart ↦ record { attempt = is.attempt; there = get_beside attempts near (change a) mark.near apart.0 ∙ is.there; has = is.has }
        ]

  -- none is there, or it has no mark
  pub no_attempt_others : get attempts near ≡ None → AreOf marks attempts → AreOfOthers near marks attempts
  no_attempt_others none are mark stands =
      let is = are mark stands in
      (λ e. none-some is.attempt (sym none ∙ ap (get attempts) (sym e) ∙ is.there), is)

  module _ (a : AttemptState) (there : get attempts near ≡ Some a) where
    its_mark : (mark : Mark) → IsOf attempts mark → mark.near ≡ near → mark_of a near ≡ Some mark
    its_mark mark is e =
        let here : is.attempt ≡ a = same_Some is.attempt a (sym is.there ∙ ap (get attempts) e ∙ there) in
        ap (mark_of a) (sym e) ∙ ap (λ x. mark_of x mark.near) (sym here) ∙ is.has

    pub no_mark_others : mark_of a near ≡ None → AreOf marks attempts → AreOfOthers near marks attempts
    no_mark_others none are mark stands = let is = are mark stands in (λ e. none-some mark (sym none ∙ its_mark mark is e), is)
