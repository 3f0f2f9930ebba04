-- Finite maps from fingerprints: what is found after something is put or taken out, and a hashed map as one.
use Rattle.std.proofs.Common.{◌≡◌, ℕ, cond, List, [], ◌∷◌, Some, None, refl, sym, ap, ◌∙◌}
use Rattle.std.specs.Str.{bytes_eq}
use Rattle.std.specs.Ordering.{nat_cmp}
use Rattle.std.specs.Cmp.Lexicographic.{slice_cmp, nat_list_cmp_total}
use Rattle.std.specs.Map.{lookup}
use Rattle.std.specs.HashMap.{HashMap, Updates, IsReordered}
use Rattle.std.specs.FinMap.{FinMap, get, insert, remove, from_entries, get-from_entries, get-insert, get-remove, nat_cmp-IsAntisymmetric, slice_cmp-IsAntisymmetric, same_map}
use Rattle.std.specs.FinMap as fin
use Rattle.std.proofs.lemmas.Map.Text.{is_eq-slice_cmp}
use Rattle.glare_core.proofs.Maps.{bytes_eq_sym}

module _ {V : Type 0} where
  pub get_put : (m : FinMap (slice_cmp nat_cmp) V) (p : List ℕ) (v : V) (q : List ℕ) → get (insert m p v) q ≡ cond (bytes_eq p q) (Some v) (get m q)
  get_put m p v q = get-insert nat_list_cmp_total m p v q ∙ ap (λ b. cond b (Some v) (get m q)) (is_eq-slice_cmp q p ∙ bytes_eq_sym q p)

  pub get_taken : (m : FinMap (slice_cmp nat_cmp) V) (p q : List ℕ) → get (remove m p) q ≡ cond (bytes_eq p q) None (get m q)
  get_taken m p q = get-remove nat_list_cmp_total m p q ∙ ap (λ b. cond b None (get m q)) (is_eq-slice_cmp q p ∙ bytes_eq_sym q p)

  same_maps : (a b : FinMap (slice_cmp nat_cmp) V) → ((q : List ℕ) → get a q ≡ get b q) → a ≡ b
  same_maps a b same = same_map nat_list_cmp_total (slice_cmp-IsAntisymmetric nat_cmp-IsAntisymmetric) a b same

  found : (q : List ℕ) (es : List (List ℕ × V)) → fin.find (slice_cmp nat_cmp) q es ≡ lookup (bytes_eq q) es
  found q [] = refl
  found q (e ∷ es) =
      ap (λ b. cond b (Some e.1) (fin.find (slice_cmp nat_cmp) q es)) (is_eq-slice_cmp q e.0) ∙ ap (cond (bytes_eq q e.0) (Some e.1)) (found q es)

  pub get_entries : (es : List (List ℕ × V)) (q : List ℕ) → get {R = slice_cmp nat_cmp} (from_entries es) q ≡ lookup (bytes_eq q) es
  get_entries es q = get-from_entries nat_list_cmp_total es q ∙ found q es

  -- A value is put under a fingerprint, or taken out.
  module _ {S : Type 0} (m n : HashMap (List ℕ) V S) where
    pub entries_put : (p : List ℕ) (v : V) → Updates bytes_eq m n p (Some v) → ◌≡◌ {A = FinMap (slice_cmp nat_cmp) V} (from_entries n.entries) (insert (from_entries m.entries) p v)
    entries_put p v updates = same_maps (from_entries n.entries) (insert (from_entries m.entries) p v) (λ q.
        get_entries n.entries q ∙ updates.0 q ∙ ap (cond (bytes_eq p q) (Some v)) (sym (get_entries m.entries q)) ∙ sym (get_put (from_entries m.entries) p v q))

    pub entries_taken : (p : List ℕ) → Updates bytes_eq m n p None → ◌≡◌ {A = FinMap (slice_cmp nat_cmp) V} (from_entries n.entries) (remove (from_entries m.entries) p)
    entries_taken p updates = same_maps (from_entries n.entries) (remove (from_entries m.entries) p) (λ q.
        get_entries n.entries q ∙ updates.0 q ∙ ap (cond (bytes_eq p q) None) (sym (get_entries m.entries q)) ∙ sym (get_taken (from_entries m.entries) p q))

    pub entries_reordered : IsReordered bytes_eq m n → ◌≡◌ {A = FinMap (slice_cmp nat_cmp) V} (from_entries n.entries) (from_entries m.entries)
    entries_reordered alike = same_maps (from_entries n.entries) (from_entries m.entries) (λ q. get_entries n.entries q ∙ alike.2 q ∙ sym (get_entries m.entries q))
