-- Hexadecimal text piece by piece.
use Rattle.std.proofs.Common.{◌≡◌, ℕ, List, [], ◌∷◌, ◌++◌, length, take, drop, refl, sym, ap, ◌∙◌, append_assoc, append-nil}
use Rattle.std.proofs.lemmas.List.{take-append-drop}
use Rattle.std.specs.Prelude.{slice_index, ◌/◌, ◌%◌}
use Rattle.hex.specs.Hex.{encode_with, encode_lower, lower_digits}

pub encode_with-append : (t a b : List ℕ) → encode_with t (a ++ b) ≡ encode_with t a ++ encode_with t b
unfolding encode_with
encode_with-append t [] b = refl
encode_with-append t (x ∷ a) b = ap (λ xs. slice_index t (x / 16) ∷ slice_index t (x % 16) ∷ xs) (encode_with-append t a b)

pub encode_with-nil : (t : List ℕ) → encode_with t [] ≡ []
unfolding encode_with
encode_with-nil t = refl

-- one more piece
pub hex_more : (text old bytes front back rest : List ℕ) (n : ℕ) → text ++ encode_lower rest ≡ old ++ encode_lower bytes → front ≡ take n rest → back ≡ drop n rest →
    (text ++ encode_lower front) ++ encode_lower back ≡ old ++ encode_lower bytes
hex_more text old bytes front back rest n e f b =
    append_assoc text (encode_lower front) (encode_lower back)
    ∙ ap (λ xs. text ++ xs) (sym (encode_with-append lower_digits front back))
    ∙ ap (λ xs. text ++ encode_lower xs) (ap (λ xs. xs ++ back) f ∙ ap (λ xs. take n rest ++ xs) b ∙ take-append-drop n rest)
    ∙ e

pub hex_all : (text old bytes rest : List ℕ) → text ++ encode_lower rest ≡ old ++ encode_lower bytes → rest ≡ [] → text ≡ old ++ encode_lower bytes
hex_all text old bytes rest e none =
    sym (append-nil text) ∙ ap (λ xs. text ++ xs) (sym (encode_with-nil lower_digits)) ∙ ap (λ xs. text ++ encode_lower xs) (sym none) ∙ e

pub none_left : (xs : List ℕ) → length xs ≡ 0 → xs ≡ []
none_left [] e = refl
none_left (x ∷ xs) e = absurd (cc)
