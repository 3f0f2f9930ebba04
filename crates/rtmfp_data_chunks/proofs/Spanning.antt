-- Pairs, one after another, in any number of steps that is enough.
use Rattle.std.proofs.Common.{◌≡◌, ℕ, zero, suc, ◌+◌, ◌-◌, ◌^◌, ◌<◌, ◌≤◌, nat_lt, cond, Bool, true, false, List, [], ◌∷◌, length, take, drop, Result, Ok, Err, refl, ap, sym, ◌∙◌, arith, length-drop}
use Rattle.std.proofs.lemmas.Bool.{lt-ltb, le-ltb}
use Rattle.rtmfp_vlu.specs.declared.reading.VluFault.{VluFault}
use Rattle.rtmfp_vlu.specs.declared.reading.VluFault.TheVariants.{Large}
use Rattle.rtmfp_vlu.specs.Vlu.{value}
use Rattle.rtmfp_vlu.specs.Reading.{one_more, end_within, fitting, number_at}
use Rattle.rtmfp_data_chunks.specs.Acked.{with_received, with_holes, spans_within, spans_of_pairs}

-- a number takes at least a byte, and only bytes that are there
one_if : (b n : ℕ) (bs : List ℕ) (t : Bool) (r : Result ℕ VluFault) → ((k : ℕ) → r ≡ Ok k → (0 < k) × (k ≤ length bs)) → cond t (Ok 1) (one_more r) ≡ Ok n → (0 < n) × (n ≤ length (b ∷ bs))
one_if b n bs true r h e = let f : 1 ≡ n = cc in (omega (arith, f), omega (arith, f))
one_if b n bs false (Ok k) h e = let f : suc k ≡ n = cc in let g = h k refl in (omega (arith, f), omega (arith, f, g.1))
one_if b n bs false (Err fault) h e = absurd cc

end_inside : (most : ℕ) (bytes : List ℕ) (n : ℕ) → end_within most bytes ≡ Ok n → (0 < n) × (n ≤ length bytes)
unfolding end_within
end_inside zero bytes n e = absurd cc
end_inside (suc most) [] n e = absurd cc
end_inside (suc most) (b ∷ bs) n e = one_if b n bs (nat_lt b 128) (end_within most bs) (end_inside most bs) e

abbrev found : ℕ → ℕ → Result (ℕ × ℕ) VluFault
found v k = Ok (v, k)

fits_if : (t : Bool) (v k w n : ℕ) → cond t (found v k) (Err Large) ≡ found w n → k ≡ n
fits_if true v k w n e =
    let pair : ℕ → ℕ → ℕ × ℕ = λ a b. (a, b) in
    let f : pair v k ≡ pair w n = cc in
    ap (λ (p : ℕ × ℕ). p.1) f
fits_if false v k w n e = absurd cc

fitting_inside : (bytes : List ℕ) (r : Result ℕ VluFault) (w n : ℕ) → ((k : ℕ) → r ≡ Ok k → (0 < k) × (k ≤ length bytes)) → fitting bytes r ≡ Ok (w, n) → (0 < n) × (n ≤ length bytes)
fitting_inside bytes (Ok k) w n h e =
    let f = fits_if (nat_lt (value (take k bytes)) (2 ^ 64)) (value (take k bytes)) k w n e in
    let g = h k refl in (omega (arith, f, g.0), omega (arith, f, g.1))
fitting_inside bytes (Err fault) w n h e = absurd cc

pub number_inside : (bytes : List ℕ) (w n : ℕ) → number_at bytes ≡ Ok (w, n) → (0 < n) × (n ≤ length bytes)
unfolding number_at
number_inside bytes w n e = fitting_inside bytes (end_within 10 bytes) w n (end_inside 10 bytes) e

-- more steps than bytes give the same
received_same : (f g : ℕ → List ℕ → List (ℕ × ℕ)) (first : ℕ) (bytes : List ℕ) (r : Result (ℕ × ℕ) VluFault) → ((last : ℕ) (w n : ℕ) → r ≡ Ok (w, n) → f last (drop n bytes) ≡ g last (drop n bytes)) → with_received f first bytes r ≡ with_received g first bytes r
received_same f g first bytes (Err fault) h = refl
received_same f g first bytes (Ok received) h =
    ap (λ xs. cond (nat_lt (first + received.0) (2 ^ 64)) ((first, first + received.0) ∷ xs) []) (h (first + received.0) received.0 received.1 refl)

holes_same : (f g : ℕ → List ℕ → List (ℕ × ℕ)) (last : ℕ) (bytes : List ℕ) (r : Result (ℕ × ℕ) VluFault)
    → ((v k : ℕ) → r ≡ Ok (v, k) → (next w n : ℕ) → number_at (drop k bytes) ≡ Ok (w, n) → f next (drop n (drop k bytes)) ≡ g next (drop n (drop k bytes))) → with_holes f last bytes r ≡ with_holes g last bytes r
holes_same f g last bytes (Err fault) h = refl
holes_same f g last bytes (Ok holes) h = received_same f g (last + holes.0 + 2) (drop holes.1 bytes) (number_at (drop holes.1 bytes)) (λ next w n e. h holes.0 holes.1 refl next w n e)

pub steps_same : (a b last : ℕ) (bytes : List ℕ) → length bytes < a → length bytes < b → spans_within a last bytes ≡ spans_within b last bytes
unfolding spans_within
steps_same zero b last bytes la lb = absurd (omega arith)
steps_same (suc a) zero last bytes la lb = absurd (omega arith)
steps_same (suc a) (suc b) last bytes la lb =
    holes_same (spans_within a) (spans_within b) last bytes (number_at bytes) (λ v k e next w n f.
    let p = number_inside bytes v k e in
    let q = number_inside (drop k bytes) w n f in
    let l = length-drop k bytes in
    let m = length-drop n (drop k bytes) in
    steps_same a b next (drop n (drop k bytes)) (omega (arith, la, p, q, l, m)) (omega (arith, lb, p, q, l, m)))

-- the pair in front
pub none_holes : (above : ℕ) (bytes : List ℕ) (fault : VluFault) → number_at bytes ≡ Err fault → spans_of_pairs above bytes ≡ []
unfolding spans_within
none_holes above bytes fault e = ap (λ r. with_holes (spans_within (length bytes)) above bytes r) e

pub none_received : (above : ℕ) (bytes : List ℕ) (v k : ℕ) (fault : VluFault) → number_at bytes ≡ Ok (v, k) → number_at (drop k bytes) ≡ Err fault → spans_of_pairs above bytes ≡ []
unfolding spans_within
none_received above bytes v k fault e f =
    ap (λ r. with_holes (spans_within (length bytes)) above bytes r) e ∙ ap (λ r. with_received (spans_within (length bytes)) (above + v + 2) (drop k bytes) r) f

large_if : (t : Bool) (x : ℕ × ℕ) (xs : List (ℕ × ℕ)) → t ≡ false → cond t (x ∷ xs) [] ≡ []
large_if true x xs e = absurd cc
large_if false x xs e = refl

pub none_large : (above : ℕ) (bytes : List ℕ) (v k w n : ℕ) → number_at bytes ≡ Ok (v, k) → number_at (drop k bytes) ≡ Ok (w, n) → nat_lt (above + v + 2 + w) (2 ^ 64) ≡ false → spans_of_pairs above bytes ≡ []
unfolding spans_within
none_large above bytes v k w n e f g =
    ap (λ r. with_holes (spans_within (length bytes)) above bytes r) e
    ∙ (ap (λ r. with_received (spans_within (length bytes)) (above + v + 2) (drop k bytes) r) f
    ∙ large_if (nat_lt (above + v + 2 + w) (2 ^ 64)) (above + v + 2, above + v + 2 + w) (spans_within (length bytes) (above + v + 2 + w) (drop n (drop k bytes))) g)

small_if : (t : Bool) (x : ℕ × ℕ) (xs : List (ℕ × ℕ)) → t ≡ true → cond t (x ∷ xs) [] ≡ x ∷ xs
small_if true x xs e = refl
small_if false x xs e = absurd cc

pub some_span : (above : ℕ) (bytes : List ℕ) (v k w n : ℕ) → number_at bytes ≡ Ok (v, k) → number_at (drop k bytes) ≡ Ok (w, n) → nat_lt (above + v + 2 + w) (2 ^ 64) ≡ true
    → spans_of_pairs above bytes ≡ (above + v + 2, above + v + 2 + w) ∷ spans_of_pairs (above + v + 2 + w) (drop n (drop k bytes))
unfolding spans_within
some_span above bytes v k w n e f g =
    let p = number_inside bytes v k e in
    let q = number_inside (drop k bytes) w n f in
    let l = length-drop k bytes in
    let m = length-drop n (drop k bytes) in
    let last = above + v + 2 + w in
    let rest = drop n (drop k bytes) in
    let same : spans_within (length bytes) last rest ≡ spans_of_pairs last rest = steps_same (length bytes) (suc (length rest)) last rest (omega (arith, p, q, l, m)) (omega arith) in
    ap (λ r. with_holes (spans_within (length bytes)) above bytes r) e
    ∙ (ap (λ r. with_received (spans_within (length bytes)) (above + v + 2) (drop k bytes) r) f
    ∙ (small_if (nat_lt last (2 ^ 64)) (above + v + 2, last) (spans_within (length bytes) last rest) g ∙ ap (λ xs. (above + v + 2, last) ∷ xs) same))

large_lt : (n : ℕ) → 2 ^ 64 ≤ n → nat_lt n (2 ^ 64) ≡ false
large_lt n le = le-ltb n (2 ^ 64) le

pub none_past : (above : ℕ) (bytes after : List ℕ) (v k w n a b d : ℕ) → number_at bytes ≡ Ok (v, k) → after ≡ drop k bytes → number_at after ≡ Ok (w, n) → a ≡ above → b ≡ v → d ≡ w → 2 ^ 64 - 1 < a + b + 2 + d → spans_of_pairs above bytes ≡ []
none_past above bytes after v k w n a b d e s f p q r lt =
    none_large above bytes v k w n e (ap number_at (sym s) ∙ f) (large_lt (above + v + 2 + w) (omega (arith, p, q, r, lt)))

pub some_past : (above : ℕ) (bytes after rest : List ℕ) (v k w n a b d : ℕ) → number_at bytes ≡ Ok (v, k) → after ≡ drop k bytes → number_at after ≡ Ok (w, n) → rest ≡ drop n after → a ≡ above → b ≡ v → d ≡ w → a + b + 2 + d ≤ 2 ^ 64 - 1
    → spans_of_pairs above bytes ≡ (a + b + 2, a + b + 2 + d) ∷ spans_of_pairs (a + b + 2 + d) rest
some_past above bytes after rest v k w n a b d e s f t p q r le =
    let x : above + v + 2 ≡ a + b + 2 = omega (arith, p, q) in
    let y : above + v + 2 + w ≡ a + b + 2 + d = omega (arith, p, q, r) in
    let z : drop n (drop k bytes) ≡ rest = ap (λ xs. drop n xs) (sym s) ∙ sym t in
    some_span above bytes v k w n e (ap number_at (sym s) ∙ f) (lt-ltb (above + v + 2 + w) (2 ^ 64) (omega (arith, y, le)))
    ∙ (ap (λ (i : ℕ). (i, above + v + 2 + w) ∷ spans_of_pairs (above + v + 2 + w) (drop n (drop k bytes))) x
    ∙ (ap (λ (i : ℕ). (a + b + 2, i) ∷ spans_of_pairs i (drop n (drop k bytes))) y ∙ ap (λ (xs : List ℕ). (a + b + 2, a + b + 2 + d) ∷ spans_of_pairs (a + b + 2 + d) xs) z))

pub none_after : (above : ℕ) (bytes after : List ℕ) (v k : ℕ) (fault : VluFault) → number_at bytes ≡ Ok (v, k) → after ≡ drop k bytes → number_at after ≡ Err fault → spans_of_pairs above bytes ≡ []
none_after above bytes after v k fault e s f = none_received above bytes v k fault e (ap number_at (sym s) ∙ f)
