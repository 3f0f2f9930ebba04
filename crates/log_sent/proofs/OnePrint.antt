-- One more fingerprint.
use Rattle.std.proofs.Common.{ℕ, List, ◌∷◌, ◌≡◌, inl, inr, refl, sym, ap, ◌∙◌, Bool, true, false, not, cond, Result, Ok}
use Rattle.std.specs.Str.{bytes_eq}
use Rattle.std.proofs.lemmas.Bool.{cases_Bool}
use Rattle.std.proofs.lemmas.Slice.Eq.{bytes_eq-Decides}
use Rattle.glare_core.specs.Steps.{Among}
use Rattle.log_sent.specs.Prints.{has_print, ArePrints, HasOneMorePrint}

either_true : (b c : Bool) → c ≡ true → cond b true c ≡ true
either_true true c e = refl
either_true false c e = e

pub one_more_print : (prints : List (List ℕ)) (print : List ℕ) (old new : List (List ℕ)) → ArePrints prints old → HasOneMorePrint print old new → ArePrints (print ∷ prints) new
one_more_print prints print old new are more = record {
  there = λ q among. more.has q ∙ elim among [
    | inl here ↦ ap (λ (b : Bool). cond b true (has_print old q)) ((bytes_eq-Decides print q).1 (sym here))
    | inr before ↦ either_true (bytes_eq print q) (has_print old q) (are.there q before)
  ];
  is = λ q e. elim (cases_Bool (bytes_eq print q)) [
    | inl same_one ↦ inl (sym ((bytes_eq-Decides print q).0 same_one))
    | inr not_it ↦ inr (are.is q (ap (λ (b : Bool). cond b true (has_print old q)) (sym not_it) ∙ sym (more.has q) ∙ e))
  ];
}

was_new : (b : Bool) → true ≡ not b → b ≡ true → ⊥
was_new true e f = absurd cc
was_new false e f = absurd cc

was_there : (b : Bool) → false ≡ not b → b ≡ true
was_there true e = refl
was_there false e = absurd cc

pub is_new : (prints each : List (List ℕ)) (print : List ℕ) → ArePrints prints each → true ≡ not (has_print each print) → Among print prints → ⊥
is_new prints each print are e among = was_new (has_print each print) e (are.there print among)

pub is_old : (prints each : List (List ℕ)) (print : List ℕ) → ArePrints prints each → false ≡ not (has_print each print) → Among print prints
is_old prints each print are e = are.is print (was_there (has_print each print) e)

pub answer_is : {E : Type 0} (a b : Bool) → ◌≡◌ {A = Result Bool E} (Ok a) (Ok b) → a ≡ b
answer_is a b e = cc
