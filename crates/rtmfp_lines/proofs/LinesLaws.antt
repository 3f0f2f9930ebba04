-- The lines of a text, from its front.
use Rattle.std.proofs.Common.{◌≡◌, ◌≢◌, ℕ, List, [], ◌∷◌, ◌++◌, refl, sym, ap, ◌∙◌, arith, append_assoc, if◌then◌else◌, inl, inr}
use Rattle.std.specs.Prelude.{◌==◌}
use Rattle.std.specs.List.{AllByRecursion, flat_map}
use Rattle.std.proofs.lemmas.Bool.Decides.{nat_tests, eqb_tells}
use Rattle.rtmfp_lines.specs.Lines.{NoLf, lines_of, whole_lines, put_first, put_whole}

other : {A : Type 0} (b : ℕ) (x y : A) → b ≢ 10 → (if b == 10 then x else y) ≡ y
other b x y h = grind (arith, nat_tests)

-- a line and its LF
pub lines_of-lf : (line rest : List ℕ) → NoLf line → lines_of (line ++ 10 ∷ rest) ≡ line ∷ lines_of rest
lines_of-lf [] rest free = refl
lines_of-lf (b ∷ line) rest free =
    other b ([] ∷ lines_of (line ++ 10 ∷ rest)) (put_first b (lines_of (line ++ 10 ∷ rest))) free.0
    ∙ ap (put_first b) (lines_of-lf line rest free.1)

-- a last line without LF
pub lines_of-last : (b : ℕ) (line : List ℕ) → NoLf (b ∷ line) → lines_of (b ∷ line) ≡ (b ∷ line) ∷ []
lines_of-last b [] free = other b ([] ∷ []) ((b ∷ []) ∷ []) free.0
lines_of-last b (c ∷ line) free =
    other b ([] ∷ lines_of (c ∷ line)) (put_first b (lines_of (c ∷ line))) free.0
    ∙ ap (put_first b) (lines_of-last c line free.1)

lf_first : (b : ℕ) (bytes : List ℕ) → b ≡ 10 → lines_of (b ∷ bytes) ≡ [] ∷ lines_of bytes
lf_first b bytes e = ap (λ x. lines_of (x ∷ bytes)) e

-- bytes without LF stand in front of the first line
pub record FirstLine (front bytes : List ℕ) : Type 0 where
  pub tail : List ℕ
  pub more : List (List ℕ)
  pub lines : lines_of bytes ≡ (front ++ tail) ∷ more

put_in_front : (b : ℕ) (lines : List (List ℕ)) → (tail : List ℕ) × (more : List (List ℕ)) × (put_first b lines ≡ (b ∷ tail) ∷ more)
put_in_front b [] = ([], [], refl)
put_in_front b (line ∷ lines) = (line, lines, refl)

-- where a byte is there, a line is
pub line_there : (b : ℕ) (bytes : List ℕ) → (line : List ℕ) × (more : List (List ℕ)) × (lines_of (b ∷ bytes) ≡ line ∷ more)
line_there b bytes =
    elim (eqb_tells b 10) [
      | inl same ↦ ([], lines_of bytes, lf_first b bytes same.1)
      | inr differs ↦ (let put = put_in_front b (lines_of bytes) in (b ∷ put.0, put.1, other b ([] ∷ lines_of bytes) (put_first b (lines_of bytes)) differs.1 ∙ put.2))
    ]

pub first_line : (b : ℕ) (front rest : List ℕ) → NoLf (b ∷ front) → FirstLine (b ∷ front) ((b ∷ front) ++ rest)
first_line b [] rest free =
    let put = put_in_front b (lines_of rest) in
    record { tail = put.0; more = put.1; lines = other b ([] ∷ lines_of rest) (put_first b (lines_of rest)) free.0 ∙ put.2 }
first_line b (c ∷ front) rest free =
    let later = first_line c front rest free.1 in
    record {
      tail = later.tail;
      more = later.more;
      lines =
          other b ([] ∷ lines_of ((c ∷ front) ++ rest)) (put_first b (lines_of ((c ∷ front) ++ rest))) free.0
          ∙ ap (put_first b) later.lines;
    }

-- lines, each with its LF
abbrev pub with_ends : List (List ℕ) → List ℕ
with_ends lines = flat_map (λ line. line ++ 10 ∷ []) lines

abbrev pub NoneHasLf : List (List ℕ) → Type 0
NoneHasLf lines = AllByRecursion NoLf lines

with_end : (line rest : List ℕ) → (line ++ 10 ∷ []) ++ rest ≡ line ++ 10 ∷ rest
with_end line rest = append_assoc line (10 ∷ []) rest

spread : (line : List ℕ) (lines : List (List ℕ)) (rest : List ℕ) → with_ends (line ∷ lines) ++ rest ≡ line ++ 10 ∷ (with_ends lines ++ rest)
spread line lines rest = append_assoc (line ++ 10 ∷ []) (with_ends lines) rest ∙ with_end line (with_ends lines ++ rest)

pub lines_of-with_ends : (lines : List (List ℕ)) (rest : List ℕ) → NoneHasLf lines → lines_of (with_ends lines ++ rest) ≡ lines ++ lines_of rest
lines_of-with_ends [] rest none = refl
lines_of-with_ends (line ∷ lines) rest none =
    ap lines_of (spread line lines rest)
    ∙ lines_of-lf line (with_ends lines ++ rest) none.0
    ∙ ap (λ ls. line ∷ ls) (lines_of-with_ends lines rest none.1)

whole_lines-lf : (line rest : List ℕ) → NoLf line → whole_lines (line ++ 10 ∷ rest) ≡ line ∷ whole_lines rest
whole_lines-lf [] rest free = refl
whole_lines-lf (b ∷ line) rest free =
    other b ([] ∷ whole_lines (line ++ 10 ∷ rest)) (put_whole b (whole_lines (line ++ 10 ∷ rest))) free.0
    ∙ ap (put_whole b) (whole_lines-lf line rest free.1)

whole_lines-none : (bytes : List ℕ) → NoLf bytes → whole_lines bytes ≡ []
whole_lines-none [] free = refl
whole_lines-none (b ∷ bytes) free =
    other b ([] ∷ whole_lines bytes) (put_whole b (whole_lines bytes)) free.0
    ∙ ap (put_whole b) (whole_lines-none bytes free.1)

pub whole_lines-with_ends : (lines : List (List ℕ)) (rest : List ℕ) → NoneHasLf lines → NoLf rest → whole_lines (with_ends lines ++ rest) ≡ lines
whole_lines-with_ends [] rest none free = whole_lines-none rest free
whole_lines-with_ends (line ∷ lines) rest none free =
    ap whole_lines (spread line lines rest)
    ∙ whole_lines-lf line (with_ends lines ++ rest) none.0
    ∙ ap (λ ls. line ∷ ls) (whole_lines-with_ends lines rest none.1 free)

-- one more line
pub with_ends-more : (lines : List (List ℕ)) (line rest : List ℕ) → with_ends (lines ++ line ∷ []) ++ rest ≡ with_ends lines ++ (line ++ 10 ∷ rest)
with_ends-more [] line rest = spread line [] rest
with_ends-more (first ∷ lines) line rest =
    spread first (lines ++ line ∷ []) rest
    ∙ ap (λ xs. first ++ 10 ∷ xs) (with_ends-more lines line rest)
    ∙ sym (spread first lines (line ++ 10 ∷ rest))

pub none_has_lf-more : (lines : List (List ℕ)) (line : List ℕ) → NoneHasLf lines → NoLf line → NoneHasLf (lines ++ line ∷ [])
none_has_lf-more [] line none free = (free, tt)
none_has_lf-more (first ∷ lines) line none free = (none.0, none_has_lf-more lines line none.1 free)
