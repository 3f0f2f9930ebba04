-- The line that stands in front of bytes, where more may follow.
use Rattle.std.proofs.Common.{◌≡◌, ◌≢◌, ℕ, ◌+◌, ◌<◌, List, [], ◌∷◌, ◌++◌, length, take, drop, refl, sym, ap, ◌∙◌, arith, append_assoc, append-nil, subst, Option, Some, None}
use Rattle.std.proofs.lemmas.List.{length-take-le, take-append-drop}
use Rattle.rtmfp_host.specs.Taking.{IsAtEnd}
use Rattle.rtmfp_lines.specs.Lines.{NoLf, lines_of}
use Rattle.rtmfp_lines.specs.Reading.{IsTooLong, NextLine, StartsWithLine}
use Rattle.rtmfp_lines.proofs.LinesLaws.{FirstLine, lines_of-lf, lines_of-last, first_line}

whole_line : (limit len : ℕ) (bytes rest : List ℕ) → StartsWithLine limit bytes len → lines_of (bytes ++ rest) ≡ take len bytes ∷ lines_of (drop (len + 1) bytes ++ rest)
whole_line limit len bytes rest starts =
    ap (λ xs. lines_of (xs ++ rest)) starts.joined
    ∙ ap lines_of (append_assoc (take len bytes) (10 ∷ drop (len + 1) bytes) rest)
    ∙ lines_of-lf (take len bytes) (drop (len + 1) bytes ++ rest) starts.no_lf

-- a line and its LF
pub next_whole : (P : List ℕ → Type 0) (left : Option (List ℕ)) (limit len : ℕ) (bytes : List ℕ) → StartsWithLine limit bytes len → P (take len bytes) → NextLine P left bytes
next_whole P None limit len bytes starts p = tt
next_whole P (Some rest) limit len bytes starts p = (take len bytes, lines_of (drop (len + 1) bytes ++ rest), whole_line limit len bytes rest starts, p)

-- a last line without LF is all that is there
pub last_line : (bytes : List ℕ) → NoLf bytes → bytes ≢ [] → lines_of bytes ≡ bytes ∷ []
last_line [] free some = absurd (some refl)
last_line (b ∷ bytes) free some = lines_of-last b bytes free

pub next_last : (P : List ℕ → Type 0) (left : Option (List ℕ)) (bytes : List ℕ) → NoLf bytes → bytes ≢ [] → IsAtEnd left → P bytes → NextLine P left bytes
next_last P None bytes free some end p = tt
next_last P (Some rest) bytes free some end p = (bytes, [], ap (λ xs. lines_of (bytes ++ xs)) end ∙ ap lines_of (append-nil bytes) ∙ last_line bytes free some, p)

first_of : (front rest : List ℕ) → NoLf front → 0 < length front → FirstLine front (front ++ rest)
first_of [] rest free some = absurd (omega arith)
first_of (b ∷ front) rest free some = first_line b front rest free

-- a line that is too long
pub next_long : (P : List ℕ → Type 0) (left : Option (List ℕ)) (limit : ℕ) (bytes : List ℕ) → IsTooLong limit bytes → ((front tail : List ℕ) → limit < length front → P (front ++ tail)) → NextLine P left bytes
next_long P None limit bytes long p = tt
next_long P (Some rest) limit bytes long p =
    let front = take (limit + 1) bytes in
    let size : length front ≡ limit + 1 = length-take-le (limit + 1) bytes (omega (arith, long.0)) in
    let first = first_of front (drop (limit + 1) bytes ++ rest) long.1 (omega (arith, size)) in
    let whole = ap (λ xs. xs ++ rest) (sym (take-append-drop (limit + 1) bytes)) ∙ append_assoc front (drop (limit + 1) bytes) rest in
    (front ++ first.tail, first.more, ap lines_of whole ∙ first.lines, p front first.tail (omega (arith, size)))

-- the next line, where the source tells what is left
pub next_of : (P : List ℕ → Type 0) (left : Option (List ℕ)) (bytes rest : List ℕ) → left ≡ Some rest → NextLine P left bytes →
    (line : List ℕ) × (more : List (List ℕ)) × (lines_of (bytes ++ rest) ≡ line ∷ more) × P line
next_of P left bytes rest e next = let Q : Option (List ℕ) → Type 0 = λ o. NextLine P o bytes in subst Q e next
