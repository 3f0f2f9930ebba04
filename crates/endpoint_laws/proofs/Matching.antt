-- What is held with each peer, and what stands under each session ID, when one thing changes.
use Rattle.std.proofs.Common.{◌≡◌, ℕ, ◌+◌, ◌<◌, ◌≤◌, ◌==◌, List, ◌∷◌, length, Bool, true, false, Option, Some, None, ◌||◌, inl, inr, refl, sym, ap, subst, ◌∙◌, arith}
use Rattle.glare_core.specs.declared.facts.Held.{Held}
use Rattle.glare_core.specs.Things.{near_of}
use Rattle.glare_core.proofs.Tails.{same_end}
use Rattle.endpoint_model.specs.State.{State, uses, is_used}
use Rattle.endpoint_model.proofs.Members.{has, without, tested, has_others, has_gone, IsOnce, one_less, once_without, same_without}

abbrev pub Found : Type 0
Found = Option (List ℕ × Held)

-- a thing with its peer, where it is one
abbrev pub of_peer : List ℕ → Option Held → Found
of_peer peer None = None
of_peer peer (Some h) = Some (peer, h)

-- What stands under the session IDs is what is held with the peers.
pub record Matches (at : ℕ → Found) (held : List ℕ → Option Held) : Type 0 where
  pub found : (near : ℕ) (p : List ℕ) (h : Held) → at near ≡ Some (p, h) → (held p ≡ Some h) × (near_of h ≡ near)
  pub there : (p : List ℕ) (h : Held) → held p ≡ Some h → at (near_of h) ≡ Some (p, h)

-- Under one session ID and with one peer it changes.
pub record Changes (near : ℕ) (peer : List ℕ) (at at' : ℕ → Found) (held held' : List ℕ → Option Held) : Type 0 where
  pub here : at' near ≡ of_peer peer (held' peer)
  pub id : (h : Held) → held' peer ≡ Some h → near_of h ≡ near
  pub elsewhere : (q : ℕ) → (q ≡ near → ⊥) → at' q ≡ at q
  pub others : (p : List ℕ) → (peer ≡ p → ⊥) → held' p ≡ held p
  pub was : at near ≡ of_peer peer (held peer)

pub of_some : (peer : List ℕ) (o : Option Held) (p : List ℕ) (h : Held) → of_peer peer o ≡ Some (p, h) → (peer ≡ p) × (o ≡ Some h)
of_some peer None p h e = absurd (cc)
of_some peer (Some k) p h e = let same : (peer, k) ≡ (p, h) = cc in (ap (λ (x : List ℕ × Held). x.0) same, ap (λ (x : List ℕ × Held). Some x.1) same)

pub changed_matches : (near : ℕ) (peer : List ℕ) (at at' : ℕ → Found) (held held' : List ℕ → Option Held) → Matches at held → Changes near peer at at' held held' → Matches at' held'
changed_matches near peer at at' held held' m c = record {
  found = λ q p h e. elim (tested q near) [
    | inl is ↦
        let both = of_some peer (held' peer) p h (sym c.here ∙ ap at' (sym is.0) ∙ e) in
        (ap held' (sym both.0) ∙ both.1, c.id h both.1 ∙ sym is.0)
    | inr is ↦
        let old = m.found q p h (sym (c.elsewhere q is.0) ∙ e) in (
          c.others p (λ same.
              let before : at near ≡ Some (peer, h) = c.was ∙ ap (of_peer peer) (ap held same ∙ old.0) in
              is.0 (sym old.1 ∙ (m.found near peer h before).1)) ∙ old.0,
          old.1,
        )
  ];
  there = λ p h e. elim (same_end peer p) [
    | inl is ↦
        let now : held' peer ≡ Some h = ap held' is.0 ∙ e in
        ap at' (c.id h now) ∙ c.here ∙ ap (of_peer peer) now ∙ ap (λ (q : List ℕ). Some (q, h)) is.0
    | inr is ↦
        let old = m.there p h (sym (c.others p is.0) ∙ e) in
        c.elsewhere (near_of h) (λ same. is.0 (of_some peer (held peer) p h (sym c.was ∙ ap at (sym same) ∙ old)).0) ∙ old
  ];
}

-- ---- the session IDs in use

pub record Ids (most : ℕ) (ids : List ℕ) (s : State) : Type 0 where
  pub used : (q : ℕ) → is_used s q ≡ has q ids
  pub count : uses s ≡ length ids
  pub once : IsOnce ids
  pub not_zero : has 0 ids ≡ false
  pub within : uses s ≤ most

pub ids_same : (most : ℕ) (ids : List ℕ) (s t : State) → Ids most ids s → ((q : ℕ) → is_used t q ≡ is_used s q) → uses t ≡ uses s → Ids most ids t
ids_same most ids s t i same count = record {
  used = λ q. same q ∙ i.used q;
  count = count ∙ i.count;
  once = i.once;
  not_zero = i.not_zero;
  within = omega (arith, i.within);
}

first_or : (a b : Bool) → a ≡ false → (a || b) ≡ b
first_or true b e = absurd (cc)
first_or false b e = refl

first_is : (a b : Bool) → a ≡ true → (a || b) ≡ true
first_is true b e = refl
first_is false b e = absurd (cc)

pub ids_more : (most : ℕ) (ids : List ℕ) (s t : State) (near : ℕ) → Ids most ids s → ((q : ℕ) → (q ≡ near → ⊥) → is_used t q ≡ is_used s q) → is_used t near ≡ true →
    uses t ≡ uses s + 1 → is_used s near ≡ false → (near ≡ 0 → ⊥) → uses s < most → Ids most (near ∷ ids) t
ids_more most ids s t near i same new count free some room = record {
  used = λ q. elim (tested near q) [
    | inl is ↦ ap (is_used t) (sym is.0) ∙ new ∙ sym (first_is (near == q) (has q ids) is.1)
    | inr is ↦ same q (λ e. is.0 (sym e)) ∙ i.used q ∙ sym (first_or (near == q) (has q ids) is.1)
  ];
  count = omega (arith, count, i.count);
  once = (sym (i.used near) ∙ free, i.once);
  not_zero = elim (tested near 0) [
    | inl is ↦ absurd (some is.0)
    | inr is ↦ first_or (near == 0) (has 0 ids) is.1 ∙ i.not_zero
  ];
  within = omega (arith, count, room);
}

-- the same where it takes the place of itself, which wasn't there
pub ids_started : (most : ℕ) (ids : List ℕ) (s t : State) (near : ℕ) → has near ids ≡ false → Ids most (near ∷ ids) t → Ids most (near ∷ without near ids) t
ids_started most ids s t near none i = subst (λ (l : List ℕ). Ids most (near ∷ l) t) (sym (same_without near ids none)) i

-- or was
pub ids_renewed : (most : ℕ) (ids : List ℕ) (s t : State) (near : ℕ) → Ids most ids s → ((q : ℕ) → is_used t q ≡ is_used s q) → uses t ≡ uses s → is_used s near ≡ true → Ids most (near ∷ without near ids) t
ids_renewed most ids s t near i same count there =
    let has_it : has near ids ≡ true = sym (i.used near) ∙ there in
    record {
      used = λ q. elim (tested near q) [
        | inl is ↦ same q ∙ ap (is_used s) (sym is.0) ∙ there ∙ sym (first_is (near == q) (has q (without near ids)) is.1)
        | inr is ↦ same q ∙ i.used q ∙ sym (has_others q near ids (λ e. is.0 (sym e))) ∙ sym (first_or (near == q) (has q (without near ids)) is.1)
      ];
      count = omega (arith, count, i.count, one_less near ids i.once has_it);
      once = (has_gone near ids, once_without near ids i.once);
      not_zero = elim (tested near 0) [
        | inl is ↦ absurd (let clash : true ≡ false = sym has_it ∙ ap (λ (q : ℕ). has q ids) is.0 ∙ i.not_zero in cc)
        | inr is ↦ first_or (near == 0) (has 0 (without near ids)) is.1 ∙ has_others 0 near ids (λ e. is.0 (sym e)) ∙ i.not_zero
      ];
      within = omega (arith, count, i.within);
    }

pub ids_less : (most : ℕ) (ids : List ℕ) (s t : State) (near : ℕ) → Ids most ids s → ((q : ℕ) → (q ≡ near → ⊥) → is_used t q ≡ is_used s q) → is_used t near ≡ false →
    is_used s near ≡ true → uses t + 1 ≡ uses s → Ids most (without near ids) t
ids_less most ids s t near i same gone there count = record {
  used = λ q. elim (tested q near) [
    | inl is ↦ ap (is_used t) is.0 ∙ gone ∙ sym (has_gone near ids) ∙ ap (λ k. has k (without near ids)) (sym is.0)
    | inr is ↦ same q is.0 ∙ i.used q ∙ sym (has_others q near ids is.0)
  ];
  count = omega (arith, count, i.count, one_less near ids i.once (sym (i.used near) ∙ there));
  once = once_without near ids i.once;
  not_zero = elim (tested 0 near) [
    | inl is ↦ ap (λ k. has k (without near ids)) is.0 ∙ has_gone near ids
    | inr is ↦ has_others 0 near ids is.0 ∙ i.not_zero
  ];
  within = omega (arith, count, i.within);
}
