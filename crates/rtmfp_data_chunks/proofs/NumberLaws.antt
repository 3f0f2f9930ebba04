-- Numbers one after another: what is spelled is read, what is read is spelled, and each break is found.
use Rattle.std.proofs.Common.{◌≡◌, ℕ, zero, suc, ◌+◌, ◌-◌, ◌<◌, ◌≤◌, List, [], ◌∷◌, ◌++◌, length, take, Result, Ok, Err, refl, sym, ap, subst, ◌∙◌, append_assoc, inl, inr, arith}
use Rattle.std.proofs.lemmas.List.{take-append-drop, length-append}
use Rattle.rtmfp_vlu.specs.declared.reading.VluFault.{VluFault}
use Rattle.rtmfp_vlu.specs.declared.reading.VluFault.TheVariants as vlu
use Rattle.rtmfp_vlu.specs.Vlu.{VluSpells}
use Rattle.rtmfp_vlu.specs.Reading.{number_at}
use Rattle.rtmfp_vlu.specs.Decoding.{Decodes}
use Rattle.rtmfp_vlu.proofs.Bytes.{IsBytes, IsBytes-drop}
use Rattle.rtmfp_vlu.proofs.Fields.{behind, stands}
use Rattle.rtmfp_vlu.proofs.Decoded.{decodes_number, reads_number, reads_cut, reads_large}
use Rattle.rtmfp_forms.specs.OptionReading.{◌>>=◌}
use Rattle.rtmfp_data_chunks.specs.declared.view.DataFault.{DataFault}
use Rattle.rtmfp_data_chunks.specs.declared.view.DataFault.TheVariants.{Unknown, Malformed, BadOffset}
use Rattle.rtmfp_data_chunks.specs.Fields.{NumbersSpell, NoNumber, NumbersBreak}
use Rattle.rtmfp_data_chunks.specs.Reader.{read_at, number_then, numbers_then}

pub bytes_behind : (b s rest : List ℕ) → b ≡ s ++ rest → IsBytes b → IsBytes rest
bytes_behind b s rest e fits = subst IsBytes (behind b s rest e) (IsBytes-drop (length s) b fits)

-- ---- one

pub number_found : (size v : ℕ) (b s rest : List ℕ) → b ≡ s ++ rest → VluSpells v s → number_then size b ≡ Ok (v, rest)
unfolding number_then
number_found size v b s rest e h =
    let at = stands v b s rest e h in
    rw (reads_number b v (length s) at.0 at.1, behind b s rest e) refl

pub number_none : (size : ℕ) (b : List ℕ) → NoNumber b → number_then size b ≡ Err (Malformed (size - length b))
unfolding number_then
number_none size b (inl cut) = rw (reads_cut b cut) refl
number_none size b (inr large) = rw (reads_large b large) refl

abbrev pub NumberIs : ℕ → List ℕ → Result (ℕ × List ℕ) DataFault → Type 0
NumberIs at b (Ok found) = (s : List ℕ) × (b ≡ s ++ found.1) × VluSpells found.0 s
NumberIs at b (Err (Unknown told)) = ⊥
NumberIs at b (Err (Malformed begins)) = NoNumber b × (begins ≡ at)
NumberIs at b (Err (BadOffset begins)) = ⊥

read_at_is : (at : ℕ) (b : List ℕ) (r : Result (ℕ × ℕ) VluFault) → Decodes b r → NumberIs at b (read_at at b r)
read_at_is at b (Ok found) d = (take found.1 b, sym (take-append-drop found.1 b), d.1)
read_at_is at b (Err vlu.Short) d = (inl d, refl)
read_at_is at b (Err vlu.Large) d = (inr d, refl)

pub number_is : (size : ℕ) (b : List ℕ) → IsBytes b → NumberIs (size - length b) b (number_then size b)
unfolding number_then
number_is size b fits = read_at_is (size - length b) b (number_at b) (decodes_number b fits)

-- ---- several

pub numbers_found : (ns : List ℕ) (size : ℕ) (b front rest : List ℕ) → b ≡ front ++ rest → NumbersSpell ns front → numbers_then (length ns) size b ≡ Ok (ns, rest)
unfolding numbers_then
numbers_found [] size b front rest e h = ap (λ (t : List ℕ). Ok ([], t)) (e ∙ ap (λ (t : List ℕ). t ++ rest) h)
numbers_found (n ∷ ns) size b front rest e (first, others, spells, joined, h) =
    let whole : b ≡ first ++ (others ++ rest) = e ∙ ap (λ (t : List ℕ). t ++ rest) joined ∙ append_assoc first others rest in
    rw (number_found size n b first (others ++ rest) whole spells, numbers_found ns size (others ++ rest) others rest refl h) refl

broken_within : (count : ℕ) (ns : List ℕ) (size : ℕ) (b front rest : List ℕ) → b ≡ front ++ rest → NumbersSpell ns front → length ns < count → NoNumber rest → length b ≤ size
    → numbers_then count size b ≡ Err (Malformed (size - length b + length front))
unfolding numbers_then
broken_within zero ns size b front rest e h fewer none le = absurd (omega (arith, fewer))
broken_within (suc count) [] size b front rest e h fewer none le =
    let whole : b ≡ rest = e ∙ ap (λ (t : List ℕ). t ++ rest) h in
    let begins : size - length b ≡ size - length b + length front = omega (arith, ap length h) in
    rw (number_none size b (subst NoNumber (sym whole) none)) (ap (λ (p : ℕ). Err (Malformed p)) begins)
broken_within (suc count) (n ∷ ns) size b front rest e (first, others, spells, joined, h) fewer none le =
    let whole : b ≡ first ++ (others ++ rest) = e ∙ ap (λ (t : List ℕ). t ++ rest) joined ∙ append_assoc first others rest in
    let less : length ns < count = omega (arith, fewer) in
    let size_is : length b ≡ length first + length (others ++ rest) = ap length whole ∙ length-append first (others ++ rest) in
    let front_is : length front ≡ length first + length others = ap length joined ∙ length-append first others in
    let begins : size - length (others ++ rest) + length others ≡ size - length b + length front = omega (arith, le, size_is, front_is) in
    rw (number_found size n b first (others ++ rest) whole spells, broken_within count ns size (others ++ rest) others rest refl h less none (omega (arith, le, size_is)))
    (ap (λ (p : ℕ). Err (Malformed p)) begins)

pub numbers_broken : (count size : ℕ) (b : List ℕ) (within : ℕ) → NumbersBreak count b within → length b ≤ size → numbers_then count size b ≡ Err (Malformed (size - length b + within))
numbers_broken count size b within h le =
    broken_within count h.numbers size b h.front h.rest h.whole h.spell h.fewer h.none le ∙ ap (λ (p : ℕ). Err (Malformed (size - length b + p))) (sym h.begins)

abbrev pub NumbersAre : ℕ → ℕ → List ℕ → Result (List ℕ × List ℕ) DataFault → Type 0
NumbersAre count at b (Ok found) = (front : List ℕ) × (b ≡ front ++ found.1) × NumbersSpell found.0 front × (length found.0 ≡ count)
NumbersAre count at b (Err (Unknown told)) = ⊥
NumbersAre count at b (Err (Malformed begins)) = (within : ℕ) × NumbersBreak count b within × (begins ≡ at + within)
NumbersAre count at b (Err (BadOffset begins)) = ⊥

abbrev then_others : ℕ → (ℕ × List ℕ) → Result (List ℕ × List ℕ) DataFault → Result (List ℕ × List ℕ) DataFault
then_others size first r = r >>= λ others. Ok (first.0 ∷ others.0, others.1)

more_are : (count size : ℕ) (b s : List ℕ) (first : ℕ × List ℕ) (r : Result (List ℕ × List ℕ) DataFault) → b ≡ s ++ first.1 → VluSpells first.0 s → length b ≤ size
    → NumbersAre count (size - length first.1) first.1 r → NumbersAre (suc count) (size - length b) b (then_others size first r)
more_are count size b s first (Ok others) e h le m = (
  s ++ m.0,
  e ∙ ap (λ (t : List ℕ). s ++ t) m.1 ∙ sym (append_assoc s m.0 others.1),
  (s, m.0, h, refl, m.2),
  ap suc m.3,
)
more_are count size b s first (Err (Unknown told)) e h le m = m
more_are count size b s first (Err (Malformed begins)) e h le m = (
  length s + m.0,
  record {
    numbers = first.0 ∷ m.1.numbers;
    front = s ++ m.1.front;
    rest = m.1.rest;
    fewer = omega (arith, m.1.fewer);
    spell = (s, m.1.front, h, refl, m.1.spell);
    whole = e ∙ ap (λ (t : List ℕ). s ++ t) m.1.whole ∙ sym (append_assoc s m.1.front m.1.rest);
    none = m.1.none;
    begins = omega (arith, m.1.begins, length-append s m.1.front);
  },
  omega (arith, m.2, le, ap length e, length-append s first.1),
)
more_are count size b s first (Err (BadOffset begins)) e h le m = m

first_is : (count size : ℕ) (b : List ℕ) (r : Result (ℕ × List ℕ) DataFault) → IsBytes b → length b ≤ size
    → ((t : List ℕ) → IsBytes t → length t ≤ size → NumbersAre count (size - length t) t (numbers_then count size t))
    → NumberIs (size - length b) b r → NumbersAre (suc count) (size - length b) b (r >>= λ first. then_others size first (numbers_then count size first.1))
first_is count size b (Ok first) fits le ih n =
    let shorter : length first.1 ≤ size = omega (arith, le, ap length n.1, length-append n.0 first.1) in
    more_are count size b n.0 first (numbers_then count size first.1) n.1 n.2 le (ih first.1 (bytes_behind b n.0 first.1 n.1 fits) shorter)
first_is count size b (Err (Unknown told)) fits le ih n = n
first_is count size b (Err (Malformed begins)) fits le ih n = (
  0,
  record { numbers = []; front = []; rest = b; fewer = omega arith; spell = refl; whole = refl; none = n.0; begins = refl },
  omega (arith, n.1),
)
first_is count size b (Err (BadOffset begins)) fits le ih n = n

pub numbers_are : (count size : ℕ) (b : List ℕ) → IsBytes b → length b ≤ size → NumbersAre count (size - length b) b (numbers_then count size b)
unfolding numbers_then
numbers_are zero size b fits le = ([], refl, refl, refl)
numbers_are (suc count) size b fits le = first_is count size b (number_then size b) fits le (numbers_are count size) (number_is size b fits)
