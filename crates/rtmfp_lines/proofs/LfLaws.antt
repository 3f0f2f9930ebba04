-- Bytes without LF.
use Rattle.std.proofs.Common.{◌≡◌, ◌≢◌, ℕ, zero, suc, ◌+◌, ◌<◌, ◌≤◌, List, [], ◌∷◌, ◌++◌, length, take, drop, get_or, refl, sym, ap, ◌∙◌, arith, subst, Some, None, Option, eq-eqb}
use Rattle.std.proofs.lemmas.Bool.{eqb-true}
use Rattle.std.proofs.Math.Seq.{take-length, drop-cons, drop-length}
use Rattle.std.proofs.lemmas.List.{take-append-drop, length-drop, length-take-le, get_or-drop}
use Rattle.memchr.specs.Find.{IsFirstByte, Passes, is_byte}
use Rattle.rtmfp_lines.specs.Lines.{NoLf, lines_of}
use Rattle.rtmfp_lines.specs.Reading.{IsFirstLf, IsTooLong, Splits, StartsWithLine}
use Rattle.rtmfp_lines.proofs.LinesLaws.{lines_of-lf, lines_of-last}

pub no_lf_from : (bs : List ℕ) (n : ℕ) → ((k : ℕ) → k < n → get_or bs k 0 ≢ 10) → NoLf (take n bs)
no_lf_from bs zero h = tt
no_lf_from [] (suc n) h = tt
no_lf_from (b ∷ bs) (suc n) h = (h 0 (omega arith), no_lf_from bs n (λ k lt. h (suc k) (omega arith)))

pub no_lf-append : (a b : List ℕ) → NoLf a → NoLf b → NoLf (a ++ b)
no_lf-append [] b p q = q
no_lf-append (x ∷ a) b p q = (p.0, no_lf-append a b p.1 q)

pub no_lf-take : (n : ℕ) (a : List ℕ) → NoLf a → NoLf (take n a)
no_lf-take zero a p = tt
no_lf-take (suc n) [] p = tt
no_lf-take (suc n) (x ∷ a) p = (p.0, no_lf-take n a p.1)

pub no_lf-shorter : (m n : ℕ) (a : List ℕ) → m ≤ n → NoLf (take n a) → NoLf (take m a)
no_lf-shorter zero n a le p = tt
no_lf-shorter (suc m) zero a le p = absurd (omega arith)
no_lf-shorter (suc m) (suc n) [] le p = tt
no_lf-shorter (suc m) (suc n) (x ∷ a) le p = (p.0, no_lf-shorter m n a (omega arith) p.1)

-- a front without LF, and more without LF behind it
pub no_lf-further : (n m : ℕ) (bs : List ℕ) → NoLf (take n bs) → NoLf (take m (drop n bs)) → NoLf (take (n + m) bs)
no_lf-further zero m bs p q = let e : m ≡ zero + m = omega arith in let P : ℕ → Type 0 = λ k. NoLf (take k bs) in subst P e q
no_lf-further (suc n) m [] p q = let e : suc (n + m) ≡ suc n + m = omega arith in let P : ℕ → Type 0 = λ k. NoLf (take k []) in subst P e tt
no_lf-further (suc n) m (x ∷ bs) p q =
    let e : suc (n + m) ≡ suc n + m = omega arith in
    let P : ℕ → Type 0 = λ k. NoLf (take k (x ∷ bs)) in
    subst P e (p.0, no_lf-further n m bs p.1 q)

passes_not : (bs : List ℕ) (k : ℕ) → (Passes (is_byte 10) bs k → ⊥) → get_or bs k 0 ≢ 10
passes_not bs k h e = h (eq-eqb (get_or bs k 0) 10 e)

pub first_lf : (bs : List ℕ) (r : Option ℕ) → IsFirstByte (is_byte 10) bs r → IsFirstLf bs r
first_lf bs None h = subst NoLf (take-length bs) (no_lf_from bs (length bs) (λ k lt. passes_not bs k (h k (omega arith) lt)))
first_lf bs (Some i) h = (h.0.high, no_lf_from bs i (λ k lt. passes_not bs k (h.0.before k (omega arith) lt)), eqb-true (get_or bs i 0) 10 h.1)

-- what the index of the first LF says of the bytes, of which the first `scanned` have none
pub found_line : (limit scanned i : ℕ) (bs : List ℕ) → NoLf (take scanned bs) → IsFirstLf (drop scanned bs) (Some i) → scanned + i ≤ limit → scanned ≤ length bs → StartsWithLine limit bs (scanned + i)
found_line limit scanned i bs none first fits within =
    let lt : scanned + i < length bs = omega (arith, length-drop scanned bs, first.0) in
    let lf : get_or bs (scanned + i) 0 ≡ 10 = sym (get_or-drop scanned bs i 0) ∙ first.2 in
    record {
      fits = fits;
      no_lf = no_lf-further scanned i bs none first.1;
      size = length-take-le (scanned + i) bs (omega (arith, lt));
      joined =
          sym (take-append-drop (scanned + i) bs)
          ∙ ap (λ xs. take (scanned + i) bs ++ xs) ((let e : suc (scanned + i) ≡ scanned + i + 1 = omega arith in drop-cons bs (scanned + i) 0 lt ∙ ap (λ n. get_or bs (scanned + i) 0 ∷ drop n bs) e))
          ∙ ap (λ x. take (scanned + i) bs ++ (x ∷ drop (scanned + i + 1) bs)) lf;
    }

pub found_long : (limit scanned i : ℕ) (bs : List ℕ) → NoLf (take scanned bs) → IsFirstLf (drop scanned bs) (Some i) → limit < scanned + i → scanned ≤ length bs → IsTooLong limit bs
found_long limit scanned i bs none first long within =
    (omega (arith, length-drop scanned bs, first.0), no_lf-shorter (limit + 1) (scanned + i) bs (omega arith) (no_lf-further scanned i bs none first.1))

pub found_none : (scanned : ℕ) (bs : List ℕ) → NoLf (take scanned bs) → IsFirstLf (drop scanned bs) None → NoLf bs
found_none scanned bs none first = subst NoLf (take-append-drop scanned bs) (no_lf-append (take scanned bs) (drop scanned bs) none first)

-- the first line of a text, and what stands behind its LF
pub split_first : (text line rest : List ℕ) (i : ℕ) → IsFirstLf text (Some i) → line ≡ take i text → rest ≡ drop (i + 1) text → Splits text line rest
split_first text line rest i first l r =
    let P : ℕ → Type 0 = λ n. StartsWithLine (length text) text n in
    let same : 0 + i ≡ i = omega arith in
    let starts : StartsWithLine (length text) text i = subst P same (found_line (length text) 0 i text tt first (omega (arith, first.0)) (omega arith)) in
    let lines : lines_of text ≡ take i text ∷ lines_of (drop (i + 1) text) =
    ap lines_of starts.joined ∙ lines_of-lf (take i text) (drop (i + 1) text) first.1 in
    record {
      lines = lines ∙ ap (λ xs. xs ∷ lines_of (drop (i + 1) text)) (sym l) ∙ ap (λ xs. line ∷ lines_of xs) (sym r);
      shorter = omega (arith, ap length r, length-drop (i + 1) text, first.0);
    }

-- a last line without LF
pub split_last : (text line rest : List ℕ) → NoLf text → text ≢ [] → line ≡ take (length text) text → rest ≡ drop (length text) text → Splits text line rest
split_last [] line rest free some l r = absurd (some refl)
split_last (b ∷ text) line rest free some l r =
    let all : line ≡ b ∷ text = l ∙ take-length (b ∷ text) in
    let none : rest ≡ [] = r ∙ drop-length (b ∷ text) in
    record {
      lines = lines_of-last b text free ∙ ap (λ xs. xs ∷ []) (sym all) ∙ ap (λ xs. line ∷ lines_of xs) (sym none);
      shorter = omega (arith, ap length none);
    }
