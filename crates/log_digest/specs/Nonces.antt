-- Nonces that were stated, and whether they are all different.
use Rattle.std.specs.Prelude.{ℕ, List, ◌≡◌, Bool, true, not, ◌&&◌, cond, refl}
use Rattle.std.specs.List.{list_any}
use Rattle.std.specs.Str.{bytes_eq}
use Rattle.std.specs.Coded.{Coded, code_by, coded×, coded_ℕ, coded_list, coded_bool}
use Rattle.glare_core.specs.Steps.{Among}
use Rattle.glare_core.specs.Told.{AllDifferent}

-- each nonce once, in no order, and whether none was added twice
pub record NonceSet : Type 0 where
  pub each : List (List ℕ)
  pub different : Bool

abbrev pub nonce_set_code : Coded NonceSet
nonce_set_code =
    code_by (List (List ℕ) × Bool) (coded× (coded_list (coded_list coded_ℕ)) coded_bool)
    (λ n. (n.each, n.different)) (λ p. record { each = p.0; different = p.1 }) (λ _. refl)

-- They are these nonces.
pub record AreNonces (nonces : List (List ℕ)) (n : NonceSet) : Type 0 where
  pub there : (nonce : List ℕ) → Among nonce nonces → list_any (bytes_eq nonce) n.each ≡ true
  pub is : (nonce : List ℕ) → list_any (bytes_eq nonce) n.each ≡ true → Among nonce nonces
  pub different : n.different ≡ true → AllDifferent nonces
  pub all_different : AllDifferent nonces → n.different ≡ true

-- They are those before and this one.
pub record HasOneMore (nonce : List ℕ) (old new : NonceSet) : Type 0 where
  pub has : (q : List ℕ) → list_any (bytes_eq q) new.each
      ≡ cond (bytes_eq nonce q) true (list_any (bytes_eq q) old.each)
  pub is_new : new.different ≡ (old.different && not (list_any (bytes_eq nonce) old.each))
