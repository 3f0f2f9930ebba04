-- What is found in the slots under a near id.
use Rattle.std.proofs.Common.{ℕ, zero, suc, ◌≡◌, List, [], ◌∷◌, map, length, cond, Bool, true, false, Option, Some, None, is_some, refl, sym, ap, subst, ◌∙◌, inl, inr, T, ◌&&◌}
use Rattle.std.specs.Option.{option_map}
use Rattle.std.specs.Ordering.{nat_cmp, eq_by_cmp, is_lt}
use Rattle.std.specs.Cmp.{nat_cmp_total}
use Rattle.std.specs.FinMap.{FinMap, get, len, entries, from_sorted, get-from_entries, get-from_sorted, get-entries, len-entries, entries-from_sorted, entries_sorted, is_sorted}
use Rattle.std.specs.FinMap as fin
use Rattle.std.specs.FinMap.Entries.{below_all}
use Rattle.std.proofs.lemmas.List.{length-map}
use Rattle.std.proofs.lemmas.Option.{none-some, same_Some}
use Rattle.rtmfp_base.proofs.Maps.{same_tables, same_or_not}
use Rattle.keyed_slab.specs.declared.keys.Key.{Key}
use Rattle.keyed_slab.specs.Keys.{KeyTable}
use Rattle.keyed_slab.specs.KeyedSlab.{thing_in}
use Rattle.keyed_slab.specs.Seating.{present, keyed_by, key_to, table_in, IsNamed}

-- ---- maps with the same keys are as long as one another

module _ {A B : Type 0} (f : A → B) where
  below_mapped : (x : ℕ) (es : List (ℕ × A)) → below_all nat_cmp x (map (λ (e : ℕ × A). (e.0, f e.1)) es) ≡ below_all nat_cmp x es
  below_mapped x [] = refl
  below_mapped x (e ∷ es) = ap (λ b. is_lt (nat_cmp x e.0) && b) (below_mapped x es)

  sorted_mapped : (es : List (ℕ × A)) → is_sorted nat_cmp (map (λ (e : ℕ × A). (e.0, f e.1)) es) ≡ is_sorted nat_cmp es
  sorted_mapped [] = refl
  sorted_mapped (e ∷ es) = λ i. below_mapped e.0 es i && sorted_mapped es i

  found_mapped : (q : ℕ) (es : List (ℕ × A)) → fin.find nat_cmp q (map (λ (e : ℕ × A). (e.0, f e.1)) es) ≡ option_map f (fin.find nat_cmp q es)
  found_mapped q [] = refl
  found_mapped q (e ∷ es) = either_way (eq_by_cmp nat_cmp q e.0) (found_mapped q es)
    where
      either_way : (b : Bool) → fin.find nat_cmp q (map (λ (e : ℕ × A). (e.0, f e.1)) es) ≡ option_map f (fin.find nat_cmp q es) →
          cond b (Some (f e.1)) (fin.find nat_cmp q (map (λ (e : ℕ × A). (e.0, f e.1)) es)) ≡ option_map f (cond b (Some e.1) (fin.find nat_cmp q es))
      either_way true rest = refl
      either_way false rest = rest

  abbrev mapped : FinMap nat_cmp A → FinMap nat_cmp B
  mapped m = from_sorted (map (λ (e : ℕ × A). (e.0, f e.1)) (entries m))

  mapped_is_sorted : (m : FinMap nat_cmp A) → T (is_sorted nat_cmp (map (λ (e : ℕ × A). (e.0, f e.1)) (entries m)))
  mapped_is_sorted m = subst T (sym (sorted_mapped (entries m))) (entries_sorted m)

  get_mapped : (m : FinMap nat_cmp A) (q : ℕ) → get (mapped m) q ≡ option_map f (get m q)
  get_mapped m q =
      get-from_sorted nat_cmp (map (λ (e : ℕ × A). (e.0, f e.1)) (entries m)) q (mapped_is_sorted m)
      ∙ found_mapped q (entries m) ∙ ap (option_map f) (sym (get-entries m q))

  len_mapped : (m : FinMap nat_cmp A) → len (mapped m) ≡ len m
  len_mapped m =
      len-entries (mapped m) ∙ ap length (entries-from_sorted nat_cmp (map (λ (e : ℕ × A). (e.0, f e.1)) (entries m)) (mapped_is_sorted m))
      ∙ length-map (entries m) (λ (e : ℕ × A). (e.0, f e.1)) ∙ sym (len-entries m)

abbrev unit_of : {A : Type 0} → A → Bool
unit_of x = true

alike : {A B : Type 0} (a : Option A) (b : Option B) → is_some a ≡ is_some b → option_map unit_of a ≡ option_map unit_of b
alike None None e = refl
alike None (Some y) e = absurd cc
alike (Some x) None e = absurd cc
alike (Some x) (Some y) e = refl

pub same_len : {A B : Type 0} (a : FinMap nat_cmp A) (b : FinMap nat_cmp B) → ((q : ℕ) → is_some (get a q) ≡ is_some (get b q)) → len a ≡ len b
same_len a b same =
    sym (len_mapped unit_of a)
    ∙ ap (λ (m : FinMap nat_cmp Bool). len m) (same_tables (mapped unit_of a) (mapped unit_of b) (λ q. get_mapped unit_of a q ∙ alike (get a q) (get b q) (same q) ∙ sym (get_mapped unit_of b q)))
    ∙ len_mapped unit_of b

-- ---- the things by their near ids

module _ {X : Type 0} (near_of : X → ℕ) where
  abbrev entry_for : X → ℕ × X
  entry_for thing = (near_of thing, thing)

  abbrev found_in : ℕ → List (Option X) → Option X
  found_in q things = fin.find nat_cmp q (map entry_for (present things))

  -- the only thing with a near id is found under it
  only_found : (q : ℕ) (thing : X) (things : List (Option X)) (slot : ℕ) → thing_in things slot ≡ Some thing → near_of thing ≡ q →
      ((k : ℕ) (other : X) → thing_in things k ≡ Some other → near_of other ≡ q → other ≡ thing) → found_in q things ≡ Some thing
  only_found q thing [] slot at is only = absurd (none-some thing at)
  only_found q thing (None ∷ rest) zero at is only = absurd (none-some thing at)
  only_found q thing (None ∷ rest) (suc slot) at is only = only_found q thing rest slot at is (λ k other. only (suc k) other)
  only_found q thing (Some first ∷ rest) zero at is only =
      let same = same_Some first thing at in
      ap (λ b. cond b (Some first) (found_in q rest)) (tells q (near_of first) (sym is ∙ sym (ap near_of same))) ∙ ap (λ t. Some t) same
    where
      tells : (a b : ℕ) → a ≡ b → eq_by_cmp nat_cmp a b ≡ true
      tells a b e = elim (same_or_not a b) [ inl y ↦ y.1 | inr n ↦ absurd (n.0 e) ]
  only_found q thing (Some first ∷ rest) (suc slot) at is only = elim (same_or_not q (near_of first)) [
    | inl y ↦ ap (λ b. cond b (Some first) (found_in q rest)) y.1 ∙ ap (λ t. Some t) (only zero first refl (sym y.0))
    | inr n ↦ ap (λ b. cond b (Some first) (found_in q rest)) n.1 ∙ only_found q thing rest slot at is (λ k other. only (suc k) other)
  ]

  -- nothing is found where no thing has the near id
  none_found : (q : ℕ) (things : List (Option X)) → ((k : ℕ) (other : X) → thing_in things k ≡ Some other → near_of other ≡ q → ⊥) → found_in q things ≡ None
  none_found q [] none = refl
  none_found q (None ∷ rest) none = none_found q rest (λ k other. none (suc k) other)
  none_found q (Some first ∷ rest) none = elim (same_or_not q (near_of first)) [
    | inl y ↦ absurd (none zero first refl (sym y.0))
    | inr n ↦ ap (λ b. cond b (Some first) (found_in q rest)) n.1 ∙ none_found q rest (λ k other. none (suc k) other)
  ]

  get_table : (things : List (Option X)) (q : ℕ) → get (table_in near_of things) q ≡ found_in q things
  get_table things q = get-from_entries nat_cmp_total (map entry_for (present things)) q

  module _ (things : List (Option X)) (generations : List ℕ) (keys : KeyTable) (names : IsNamed near_of things generations keys) where
    -- two slots never have one near id
    pub one_slot : (s t : ℕ) (a b : X) → thing_in things s ≡ Some a → thing_in things t ≡ Some b → near_of a ≡ near_of b → s ≡ t
    one_slot s t a b x y same =
        ap (λ (k : Key). k.slot) (same_Some (key_to generations s) (key_to generations t) (sym (names.keyed s a x) ∙ ap (get keys) same ∙ names.keyed t b y))

    one_thing : (s t : ℕ) (a b : X) → thing_in things s ≡ Some a → thing_in things t ≡ Some b → near_of a ≡ near_of b → a ≡ b
    one_thing s t a b x y same = same_Some a b (sym x ∙ ap (thing_in things) (one_slot s t a b x y same) ∙ y)

    pub in_slot : (slot : ℕ) (thing : X) (q : ℕ) → thing_in things slot ≡ Some thing → near_of thing ≡ q → get (table_in near_of things) q ≡ Some thing
    in_slot slot thing q at is = get_table things q ∙ only_found q thing things slot at is (λ k other there same. one_thing k slot other thing there at (same ∙ sym is))

    -- what is found under a near id stands in the slot of its key
    pub found_by : (q : ℕ) → get (table_in near_of things) q ≡ keyed_by things (get keys q)
    found_by q = go (get keys q) refl
      where
        go : (o : Option Key) → get keys q ≡ o → get (table_in near_of things) q ≡ keyed_by things (get keys q)
        go None e =
            get_table things q ∙ none_found q things (λ k other there same. none-some (key_to generations k) (sym e ∙ ap (get keys) (sym same) ∙ names.keyed k other there))
            ∙ sym (ap (keyed_by things) e)
        go (Some key) e =
            let seat = names.seated q key e in
            in_slot key.slot seat.thing q seat.stands seat.near_is ∙ sym seat.stands ∙ sym (ap (keyed_by things) e)

    -- there is a thing exactly where there is a key
    pub tells_key : (q : ℕ) → is_some (get (table_in near_of things) q) ≡ is_some (get keys q)
    tells_key q = go (get keys q) refl
      where
        go : (o : Option Key) → get keys q ≡ o → is_some (get (table_in near_of things) q) ≡ is_some (get keys q)
        go None e = ap is_some (found_by q ∙ ap (keyed_by things) e) ∙ sym (ap is_some e)
        go (Some key) e = ap is_some (found_by q ∙ ap (keyed_by things) e ∙ (names.seated q key e).stands) ∙ sym (ap is_some e)

    pub as_many_keys : len (table_in near_of things) ≡ len keys
    as_many_keys = same_len (table_in near_of things) keys tells_key
