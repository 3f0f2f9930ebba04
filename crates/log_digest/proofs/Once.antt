-- One more nonce.
use Rattle.std.proofs.Common.{ℕ, List, ◌∷◌, ◌≡◌, inl, inr, refl, sym, ap, Bool, true, false, not, ◌&&◌, cond, ◌∙◌}
use Rattle.std.specs.List.{list_any}
use Rattle.std.specs.Str.{bytes_eq}
use Rattle.std.proofs.lemmas.Bool.{cases_Bool}
use Rattle.std.proofs.lemmas.Slice.Eq.{bytes_eq-Decides}
use Rattle.rtmfp_forms.proofs.Places.{first_true, second_true, both_true}
use Rattle.log_digest.specs.Nonces.{NonceSet, AreNonces, HasOneMore}

not_true : (b : Bool) → not b ≡ true → b ≡ false
not_true true e = absurd cc
not_true false e = refl

was_false : (b : Bool) → (b ≡ true → ⊥) → not b ≡ true
was_false true never = absurd (never refl)
was_false false never = refl

either_true : (b c : Bool) → c ≡ true → cond b true c ≡ true
either_true true c e = refl
either_true false c e = e

pub one_more_nonce : (nonces : List (List ℕ)) (nonce : List ℕ) (old new : NonceSet) → AreNonces nonces old → HasOneMore nonce old new → AreNonces (nonce ∷ nonces) new
one_more_nonce nonces nonce old new are more = record {
  there = λ q among. more.has q ∙ elim among [
    | inl here ↦ ap (λ (b : Bool). cond b true (list_any (bytes_eq q) old.each)) ((bytes_eq-Decides nonce q).1 (sym here))
    | inr before ↦ either_true (bytes_eq nonce q) (list_any (bytes_eq q) old.each) (are.there q before)
  ];
  is = λ q e. elim (cases_Bool (bytes_eq nonce q)) [
    | inl same_one ↦ inl (sym ((bytes_eq-Decides nonce q).0 same_one))
    | inr not_it ↦ inr (are.is q (ap (λ (b : Bool). cond b true (list_any (bytes_eq q) old.each)) (sym not_it) ∙ sym (more.has q) ∙ e))
  ];
  different = λ e.
      let both : (old.different && not (list_any (bytes_eq nonce) old.each)) ≡ true = sym more.is_new ∙ e in
      let new_one : list_any (bytes_eq nonce) old.each ≡ false = not_true (list_any (bytes_eq nonce) old.each) (second_true old.different (not (list_any (bytes_eq nonce) old.each)) both) in
      ((λ among. let clash : true ≡ false = sym (are.there nonce among) ∙ new_one in absurd cc), are.different (first_true old.different (not (list_any (bytes_eq nonce) old.each)) both));
  all_different = λ all.
      more.is_new ∙ both_true old.different (not (list_any (bytes_eq nonce) old.each)) (are.all_different all.1) (was_false (list_any (bytes_eq nonce) old.each) (λ e. all.0 (are.is nonce e)));
}
