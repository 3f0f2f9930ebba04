-- What is kept of tags stays so of all that began.
use Rattle.std.proofs.Common.{ℕ, List, [], ◌∷◌, ◌≡◌, ◌==◌, inl, inr, Bool, true, false, cond, if◌then◌else◌, Option, Some, None, Result, Ok, Err, OnOk, OnErr, refl, sym, ap, subst, ◌∙◌, eqb-true}
use Rattle.std.specs.Ordering.{nat_cmp}
use Rattle.std.specs.FinMap.{get, insert, empty, get-empty}
use Rattle.std.specs.Map.{lookup}
use Rattle.std.specs.Str.{bytes_eq}
use Rattle.std.proofs.lemmas.Slice.Eq.{bytes_eq-Decides}
use Rattle.rtmfp_base.proofs.Maps.{get_inserted, get_beside, same_or_not}
use Rattle.log_contexts.specs.declared.threads.Thread.{Thread}
use Rattle.log_contexts.specs.Kept.{ThreadTable, tag_at, tag_in}
use Rattle.log_contexts.specs.Changes.{started, with_keying, with_keyings, with_start}
use Rattle.log_contexts.specs.Alone.{AloneTable, AreAlone, HasNoted, MayBe, noted}

-- ---- what is put under one session ID

tag_here : (threads : ThreadTable) (near : ℕ) (thread : Thread) → tag_at near (insert threads near thread) ≡ thread.tag
tag_here threads near thread = ap tag_in (get_inserted threads near thread)

tag_beside : (threads : ThreadTable) (near : ℕ) (thread : Thread) (other : ℕ) → (other ≡ near → ⊥) → tag_at other (insert threads near thread) ≡ tag_at other threads
tag_beside threads near thread other apart = ap tag_in (get_beside threads near thread other apart)

-- ---- what is kept of a tag

module _ (near : ℕ) (tag : List ℕ) (old new : AloneTable) (has : HasNoted near tag old new) where
  here : (o : Option (Option ℕ)) → MayBe near (Some (noted near o))
  here None = refl
  here (Some None) = tt
  here (Some (Some other)) = by (other == near)
    where
      by : (b : Bool) → MayBe near (Some (if b then Some near else None))
      by true = refl
      by false = tt

  before : (q : ℕ) (o : Option (Option ℕ)) → MayBe q o → MayBe q (Some (noted near o))
  before q None may = absurd may
  before q (Some None) may = tt
  before q (Some (Some other)) may = by (other == near) refl
    where
      by : (b : Bool) → (other == near) ≡ b → MayBe q (Some (if b then Some near else None))
      by true e = may ∙ eqb-true other near e
      by false e = tt

  of_it : lookup (bytes_eq tag) new ≡ Some (noted near (lookup (bytes_eq tag) old))
  of_it = has.of tag ∙ ap (λ (b : Bool). cond b (Some (noted near (lookup (bytes_eq tag) old))) (lookup (bytes_eq tag) old)) ((bytes_eq-Decides tag tag).1 refl)

  -- The one that begins may be there.
  pub begins_there : MayBe near (lookup (bytes_eq tag) new)
  begins_there = subst (MayBe near) (sym of_it) (here (lookup (bytes_eq tag) old))

  -- And whatever may have been there may be still.
  stays_there : (q : ℕ) (its : List ℕ) → MayBe q (lookup (bytes_eq its) old) → MayBe q (lookup (bytes_eq its) new)
  stays_there q its may = by (bytes_eq tag its) refl
    where
      by : (b : Bool) → bytes_eq tag its ≡ b → MayBe q (lookup (bytes_eq its) new)
      by true e =
          let same : tag ≡ its = (bytes_eq-Decides tag its).0 e in
          let noted_is : lookup (bytes_eq its) new ≡ Some (noted near (lookup (bytes_eq its) old)) = subst (λ (t : List ℕ). lookup (bytes_eq t) new ≡ Some (noted near (lookup (bytes_eq t) old))) same of_it in
          subst (MayBe q) (sym noted_is) (before q (lookup (bytes_eq its) old) may)
      by false e =
          subst (MayBe q) (sym (has.of its ∙ ap (λ (b : Bool). cond b (Some (noted near (lookup (bytes_eq tag) old))) (lookup (bytes_eq its) old)) e)) may

  pub noted_still : (threads : ThreadTable) → AreAlone threads old → AreAlone threads new
  noted_still threads are = record { may = λ q its there. stays_there q its (are.may q its there) }

  pub starts_there : (threads : ThreadTable) → AreAlone threads old → AreAlone (with_start near (Some tag) threads) new
  starts_there threads are = record {
    may = λ q its there.
        let thread : Thread = started (Some tag) (get threads near) in
        elim (same_or_not q near) [
          | inl is ↦
              let e : Some tag ≡ Some its = sym (tag_here threads near thread) ∙ ap (λ (x : ℕ). tag_at x (insert threads near thread)) (sym is.0) ∙ there in
              let same : tag ≡ its = cc in
              subst (λ (x : ℕ). MayBe x (lookup (bytes_eq its) new)) (sym is.0) (subst (λ (t : List ℕ). MayBe near (lookup (bytes_eq t) new)) same begins_there)
          | inr is ↦ stays_there q its (are.may q its (sym (tag_beside threads near thread q is.0) ∙ there))
        ];
  }

-- ---- what has the tag that was there

retagged : (threads : ThreadTable) (alone : AloneTable) (near : ℕ) (thread : Thread) → thread.tag ≡ tag_at near threads → AreAlone threads alone → AreAlone (insert threads near thread) alone
retagged threads alone near thread same are = record {
  may = λ q its there. elim (same_or_not q near) [
    | inl is ↦
        let e : tag_at q threads ≡ Some its = ap (λ (x : ℕ). tag_at x threads) is.0 ∙ sym same ∙ sym (tag_here threads near thread) ∙ ap (λ (x : ℕ). tag_at x (insert threads near thread)) (sym is.0) ∙ there in
        are.may q its e
    | inr is ↦ are.may q its (sym (tag_beside threads near thread q is.0) ∙ there)
  ];
}

pub starts_again : (threads : ThreadTable) (alone : AloneTable) (near : ℕ) → AreAlone threads alone → AreAlone (with_start near None threads) alone
starts_again threads alone near are = retagged threads alone near (started None (get threads near)) refl are

pub keyed_still : (generation : ℕ) (nears : List ℕ) (threads : ThreadTable) (alone : AloneTable) → AreAlone threads alone → AreAlone (with_keyings generation nears threads) alone
keyed_still generation [] threads alone are = are
keyed_still generation (near ∷ more) threads alone are =
    keyed_still generation more (with_keying generation near threads) alone (retagged threads alone near (record { tag = tag_in (get threads near); keying = Some generation }) refl are)

pub none_alone : AreAlone empty []
none_alone = record { may = λ q its there. absurd (let clash : None ≡ Some its = sym (ap tag_in (get-empty {X = Thread} nat_cmp q)) ∙ there in cc) }

-- ---- what a call gave

pub either_way : {T E : Type 0} {A B C : Type 0} (r : Result T E) → OnOk r A → OnErr r B → (A → C) → (B → C) → C
either_way (Ok x) a b f g = f a
either_way (Err e) a b f g = g b
