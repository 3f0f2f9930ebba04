-- One step of a walk over chunks.
use Rattle.std.proofs.Common.{◌≡◌, ℕ, suc, zero, ◌+◌, ◌*◌, ◌≤◌, ◌<◌, List, [], ◌∷◌, length, take, drop, get_or, if◌then◌else◌, nat_le, refl, sym, ap, ◌∙◌, arith, length-drop}
use Rattle.std.proofs.lemmas.Bool.Decides.{nat_tests}
use Rattle.rtmfp_packet.specs.Spelling.{IsPadding}
use Rattle.rtmfp_packet.specs.Walk.{walk, body_of, then_body, only_padding}

-- steps beyond the bytes change nothing
pub walk_enough : (n m : ℕ) (b : List ℕ) → length b ≤ n → length b ≤ m → walk n b ≡ walk m b
walk_enough zero zero b p q = refl
walk_enough zero (suc m) [] p q = refl
walk_enough zero (suc m) (k ∷ b) p q = absurd (omega arith)
walk_enough (suc n) zero [] p q = refl
walk_enough (suc n) zero (k ∷ b) p q = absurd (omega arith)
walk_enough (suc n) (suc m) [] p q = refl
walk_enough (suc n) (suc m) (k ∷ []) p q = refl
walk_enough (suc n) (suc m) (k ∷ h ∷ []) p q = refl
walk_enough (suc n) (suc m) (k ∷ h ∷ l ∷ rest) p q =
    let len = h * 256 + l in
    ap (λ body. if nat_le len (length rest) then then_body (record { kind = k; payload = take len rest }) body else only_padding (k ∷ h ∷ l ∷ rest))
    (walk_enough n m (drop len rest) (omega (arith, length-drop len rest)) (omega (arith, length-drop len rest)))

yes : {A : Type 0} (m n : ℕ) (x y : A) → m ≤ n → (if nat_le m n then x else y) ≡ x
yes m n x y h = grind (arith, nat_tests)

no : {A : Type 0} (m n : ℕ) (x y : A) → n < m → (if nat_le m n then x else y) ≡ y
no m n x y h = grind (arith, nat_tests)

-- a chunk that is there whole is walked over
pub body_of-chunk : (k h l : ℕ) (rest : List ℕ) → h * 256 + l ≤ length rest →
    body_of (k ∷ h ∷ l ∷ rest) ≡ then_body (record { kind = k; payload = take (h * 256 + l) rest }) (body_of (drop (h * 256 + l) rest))
body_of-chunk k h l rest le =
    let len = h * 256 + l in
    yes len (length rest) _ _ le
    ∙ ap (then_body (record { kind = k; payload = take len rest }))
    (walk_enough (length (h ∷ l ∷ rest)) (length (drop len rest)) (drop len rest) (omega (arith, length-drop len rest)) (omega arith))

-- the same, with the bytes and the length as code has them
pub body_of-first : (n : ℕ) (b : List ℕ) → 3 ≤ length b → n ≡ get_or b 1 0 * 256 + get_or b 2 0 → n ≤ length (drop 3 b) →
    body_of b ≡ then_body (record { kind = get_or b 0 0; payload = take n (drop 3 b) }) (body_of (drop n (drop 3 b)))
body_of-first n [] h e le = absurd (omega arith)
body_of-first n (k ∷ []) h e le = absurd (omega arith)
body_of-first n (k ∷ x ∷ []) h e le = absurd (omega arith)
body_of-first n (k ∷ x ∷ y ∷ rest) h e le =
    let len : x * 256 + y ≤ length rest = omega (arith, le, e) in
    body_of-chunk k x y rest len
    ∙ ap (λ m. then_body (record { kind = k; payload = take m rest }) (body_of (drop m rest))) (sym e)

-- what is shorter than a chunk's head, or has a length that passes its end, is padding
pub body_of-padding : (b : List ℕ) → IsPadding b → body_of b ≡ only_padding b
body_of-padding [] h = refl
body_of-padding (k ∷ []) h = refl
body_of-padding (k ∷ x ∷ []) h = refl
body_of-padding (k ∷ x ∷ y ∷ rest) h = no (x * 256 + y) (length rest) _ _ h
