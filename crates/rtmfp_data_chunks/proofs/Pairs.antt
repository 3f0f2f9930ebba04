-- The walk over the pairs of an ack.
use Rattle.std.proofs.Common.{◌≡◌, ℕ, zero, suc, ◌+◌, ◌-◌, ◌^◌, ◌<◌, ◌≤◌, nat_lt, cond, List, [], ◌∷◌, ◌++◌, length, get_or, Result, Ok, Err, refl, sym, ap, subst, ◌∙◌, append_assoc, inl, inr, arith}
use Rattle.std.proofs.lemmas.Bool.{cases_lt, lt-ltb, le-ltb}
use Rattle.std.proofs.lemmas.List.{length-append}
use Rattle.rtmfp_vlu.proofs.Bytes.{IsBytes}
use Rattle.rtmfp_vlu.proofs.Spellings.{IsEnded-some}
use Rattle.rtmfp_forms.specs.OptionReading.{◌>>=◌}
use Rattle.rtmfp_data_chunks.specs.declared.view.DataFault.{DataFault}
use Rattle.rtmfp_data_chunks.specs.declared.view.DataFault.TheVariants.{Unknown, Malformed, BadOffset}
use Rattle.rtmfp_data_chunks.specs.Fields.{NumbersSpell}
use Rattle.rtmfp_data_chunks.specs.Acks.{PairsTell, last_told, PairBreaks, PairsBreak}
use Rattle.rtmfp_data_chunks.specs.Reader.{numbers_then, walk_within, pairs_then}
use Rattle.rtmfp_data_chunks.proofs.NumberLaws.{bytes_behind, NumbersAre, numbers_are, numbers_found, numbers_broken}

-- a pair takes bytes
pub pair_some : (n m : ℕ) (s : List ℕ) → NumbersSpell (n ∷ m ∷ []) s → 0 < length s
pair_some n m s (first, others, spells, joined, h) = omega (arith, ap length joined, length-append first others, IsEnded-some first spells.ended)

-- ---- one turn, from what was read of a pair

abbrev after_pair : ℕ → ℕ → ℕ → List ℕ → List ℕ × List ℕ → Result ℕ DataFault
after_pair steps size above b numbers =
    let end = above + get_or numbers.0 0 0 + 2 + get_or numbers.0 1 0 in
    cond (nat_lt end (2 ^ 64)) (walk_within steps size end numbers.1) (Err (Malformed (size - length b)))

one_turn : (steps size above : ℕ) (b : List ℕ) → 0 < length b → walk_within (suc steps) size above b ≡ (numbers_then 2 size b >>= after_pair steps size above b)
unfolding walk_within
one_turn steps size above [] some = absurd (omega (arith, some))
one_turn steps size above (x ∷ xs) some = refl

-- ---- what the walk gives is so

abbrev pub PairsAre : ℕ → ℕ → List ℕ → Result ℕ DataFault → Type 0
PairsAre above at b (Ok end) = (spans : List (ℕ × ℕ)) × PairsTell above spans b × (end ≡ last_told above spans)
PairsAre above at b (Err (Unknown told)) = ⊥
PairsAre above at b (Err (Malformed begins)) = (within : ℕ) × PairsBreak above b within × (begins ≡ at + within)
PairsAre above at b (Err (BadOffset begins)) = ⊥

-- the first pair is good
first_told : (above h r size : ℕ) (b pair rest : List ℕ) (read : Result ℕ DataFault) → b ≡ pair ++ rest → NumbersSpell (h ∷ r ∷ []) pair → above + h + 2 + r < 2 ^ 64 → length b ≤ size
    → PairsAre (above + h + 2 + r) (size - length rest) rest read → PairsAre above (size - length b) b read
first_told above h r size b pair rest (Ok end) e spells fits le m =
    let holes : (above + h + 2) - (above + 2) ≡ h = omega arith in
    let received : (above + h + 2 + r) - (above + h + 2) ≡ r = omega arith in
    let told : NumbersSpell (((above + h + 2) - (above + 2)) ∷ ((above + h + 2 + r) - (above + h + 2)) ∷ []) pair = rw (holes, received) spells in
    ((above + h + 2, above + h + 2 + r) ∷ m.0, (pair, rest, e, omega arith, omega arith, fits, told, m.1), m.2)
first_told above h r size b pair rest (Err (Unknown t)) e spells fits le m = m
first_told above h r size b pair rest (Err (Malformed begins)) e spells fits le m =
    let holes : (above + h + 2) - (above + 2) ≡ h = omega arith in
    let received : (above + h + 2 + r) - (above + h + 2) ≡ r = omega arith in
    let told : NumbersSpell (((above + h + 2) - (above + 2)) ∷ ((above + h + 2 + r) - (above + h + 2)) ∷ []) pair = rw (holes, received) spells in (
      length pair + m.0,
      record {
        spans = (above + h + 2, above + h + 2 + r) ∷ m.1.spans;
        front = pair ++ m.1.front;
        rest = m.1.rest;
        within = m.1.within;
        whole = e ∙ ap (λ (t : List ℕ). pair ++ t) m.1.whole ∙ sym (append_assoc pair m.1.front m.1.rest);
        told = (pair, m.1.front, refl, omega arith, omega arith, fits, told, m.1.told);
        breaks = m.1.breaks;
        begins = omega (arith, m.1.begins, length-append pair m.1.front);
      },
      omega (arith, m.2, le, ap length e, length-append pair rest),
    )
first_told above h r size b pair rest (Err (BadOffset begins)) e spells fits le m = m

pair_read : (steps size above : ℕ) (b : List ℕ) (r : Result (List ℕ × List ℕ) DataFault) → IsBytes b → length b ≤ size → 0 < length b → length b < suc steps
    → ((up : ℕ) (t : List ℕ) → IsBytes t → length t ≤ size → length t < steps → PairsAre up (size - length t) t (walk_within steps size up t))
    → NumbersAre 2 (size - length b) b r → PairsAre above (size - length b) b (r >>= after_pair steps size above b)
pair_read steps size above b (Ok ([], rest)) fits le some lt ih n = absurd (omega (arith, n.3))
pair_read steps size above b (Ok (h ∷ [], rest)) fits le some lt ih n = absurd (omega (arith, n.3))
pair_read steps size above b (Ok (h ∷ r ∷ [], rest)) fits le some lt ih n =
    let sum : length b ≡ length n.0 + length rest = ap length n.1 ∙ length-append n.0 rest in
    let more : 0 < length n.0 = pair_some h r n.0 n.2 in
    elim (cases_lt (above + h + 2 + r) (2 ^ 64)) [
      | inl below ↦ rw (lt-ltb (above + h + 2 + r) (2 ^ 64) below)
          (first_told above h r size b n.0 rest (walk_within steps size (above + h + 2 + r) rest) n.1 n.2 below le
          (ih (above + h + 2 + r) rest (bytes_behind b n.0 rest n.1 fits) (omega (arith, sum, le)) (omega (arith, sum, more, lt))))
      | inr past ↦ rw (le-ltb (above + h + 2 + r) (2 ^ 64) past) (
        0,
        record {
          spans = [];
          front = [];
          rest = b;
          within = 0;
          whole = refl;
          told = refl;
          breaks = (some, inr (record { holes = h; received = r; pair = n.0; rest = rest; whole = n.1; spell = n.2; passes = past }, refl));
          begins = refl;
        },
        omega arith,
      )
    ]
pair_read steps size above b (Ok (h ∷ r ∷ q ∷ qs, rest)) fits le some lt ih n = absurd (omega (arith, n.3))
pair_read steps size above b (Err (Unknown told)) fits le some lt ih n = n
pair_read steps size above b (Err (Malformed begins)) fits le some lt ih n = (
  n.0,
  record { spans = []; front = []; rest = b; within = n.0; whole = refl; told = refl; breaks = (some, inl n.1); begins = omega arith },
  n.2,
)
pair_read steps size above b (Err (BadOffset begins)) fits le some lt ih n = n

pub pairs_are : (steps size above : ℕ) (b : List ℕ) → IsBytes b → length b ≤ size → length b < steps → PairsAre above (size - length b) b (walk_within steps size above b)
unfolding walk_within
pairs_are zero size above b fits le lt = absurd (omega (arith, lt))
pairs_are (suc steps) size above [] fits le lt = ([], refl, refl)
pairs_are (suc steps) size above (x ∷ xs) fits le lt =
    pair_read steps size above (x ∷ xs) (numbers_then 2 size (x ∷ xs)) fits le (omega arith) lt (λ up t f l s. pairs_are steps size up t f l s) (numbers_are 2 size (x ∷ xs) fits le)

-- ---- what is so is what the walk gives

pub pairs_found : (steps size above : ℕ) (spans : List (ℕ × ℕ)) (b : List ℕ) → PairsTell above spans b → length b < steps → length b ≤ size
    → walk_within steps size above b ≡ Ok (last_told above spans)
unfolding walk_within
pairs_found zero size above spans b h lt le = absurd (omega (arith, lt))
pairs_found (suc steps) size above [] b h lt le = rw h refl
pairs_found (suc steps) size above (s ∷ ss) b (pair, rest, e, low, high, fits, spells, others) lt le =
    let sum : length b ≡ length pair + length rest = ap length e ∙ length-append pair rest in
    let more : 0 < length pair = pair_some (s.0 - (above + 2)) (s.1 - s.0) pair spells in
    let end : above + (s.0 - (above + 2)) + 2 + (s.1 - s.0) ≡ s.1 = omega (arith, low, high) in
    one_turn steps size above b (omega (arith, sum, more))
    ∙ rw (numbers_found ((s.0 - (above + 2)) ∷ (s.1 - s.0) ∷ []) size b pair rest e spells, end, lt-ltb s.1 (2 ^ 64) fits)
    (pairs_found steps size s.1 ss rest others (omega (arith, sum, more, lt)) (omega (arith, sum, le)))

broken_first : (steps size above : ℕ) (b : List ℕ) (within : ℕ) → PairBreaks above b within → length b ≤ size → walk_within (suc steps) size above b ≡ Err (Malformed (size - length b + within))
broken_first steps size above b within (some, inl breaks) le = one_turn steps size above b some ∙ rw (numbers_broken 2 size b within breaks le) refl
broken_first steps size above b within (some, inr (p, begins)) le =
    let same : size - length b ≡ size - length b + within = omega (arith, begins) in
    one_turn steps size above b some
    ∙ rw (numbers_found (p.holes ∷ p.received ∷ []) size b p.pair p.rest p.whole p.spell, le-ltb (above + p.holes + 2 + p.received) (2 ^ 64) p.passes)
    (ap (λ (n : ℕ). Err (Malformed n)) same)

broken_behind : (steps size above : ℕ) (spans : List (ℕ × ℕ)) (b front rest : List ℕ) (within : ℕ) → b ≡ front ++ rest → PairsTell above spans front
    → PairBreaks (last_told above spans) rest within → length b < steps → length b ≤ size → walk_within steps size above b ≡ Err (Malformed (size - length b + (length front + within)))
broken_behind zero size above spans b front rest within e told breaks lt le = absurd (omega (arith, lt))
broken_behind (suc steps) size above [] b front rest within e told breaks lt le =
    let whole : b ≡ rest = e ∙ ap (λ (t : List ℕ). t ++ rest) told in
    let P : List ℕ → Type 0 = λ t. PairBreaks above t within in
    let begins : size - length b + within ≡ size - length b + (length front + within) = omega (arith, ap length told) in
    broken_first steps size above b within (subst P (sym whole) breaks) le ∙ ap (λ (n : ℕ). Err (Malformed n)) begins
broken_behind (suc steps) size above (s ∷ ss) b front rest within e (pair, others, joined, low, high, fits, spells, told) breaks lt le =
    let whole : b ≡ pair ++ (others ++ rest) = e ∙ ap (λ (t : List ℕ). t ++ rest) joined ∙ append_assoc pair others rest in
    let sum : length b ≡ length pair + length (others ++ rest) = ap length whole ∙ length-append pair (others ++ rest) in
    let more : 0 < length pair = pair_some (s.0 - (above + 2)) (s.1 - s.0) pair spells in
    let end : above + (s.0 - (above + 2)) + 2 + (s.1 - s.0) ≡ s.1 = omega (arith, low, high) in
    let begins : size - length (others ++ rest) + (length others + within) ≡ size - length b + (length front + within) = omega (arith, sum, le, ap length joined, length-append pair others) in
    one_turn steps size above b (omega (arith, sum, more))
    ∙ rw (numbers_found ((s.0 - (above + 2)) ∷ (s.1 - s.0) ∷ []) size b pair (others ++ rest) whole spells, end, lt-ltb s.1 (2 ^ 64) fits)
    (broken_behind steps size s.1 ss (others ++ rest) others rest within refl told breaks (omega (arith, sum, more, lt)) (omega (arith, sum, le)) ∙ ap (λ (n : ℕ). Err (Malformed n)) begins)

pub pairs_broken : (steps size above : ℕ) (b : List ℕ) (within : ℕ) → PairsBreak above b within → length b < steps → length b ≤ size → walk_within steps size above b ≡ Err (Malformed (size - length b + within))
pairs_broken steps size above b within h lt le =
    broken_behind steps size above h.spans b h.front h.rest h.within h.whole h.told h.breaks lt le ∙ ap (λ (n : ℕ). Err (Malformed (size - length b + n))) (sym h.begins)

-- so any number of steps that is enough gives the same

again : (steps size above : ℕ) (b : List ℕ) (r : Result ℕ DataFault) → PairsAre above (size - length b) b r → length b < steps → length b ≤ size → walk_within steps size above b ≡ r
again steps size above b (Ok end) m lt le = pairs_found steps size above m.0 b m.1 lt le ∙ ap (λ (n : ℕ). Ok n) (sym m.2)
again steps size above b (Err (Unknown told)) m lt le = absurd m
again steps size above b (Err (Malformed begins)) m lt le = pairs_broken steps size above b m.0 m.1 lt le ∙ ap (λ (n : ℕ). Err (Malformed n)) (sym m.2)
again steps size above b (Err (BadOffset begins)) m lt le = absurd m

pub same_walk : (m n size above : ℕ) (b : List ℕ) → IsBytes b → length b ≤ size → length b < m → length b < n → walk_within m size above b ≡ walk_within n size above b
same_walk m n size above b fits le lm ln = again m size above b (walk_within n size above b) (pairs_are n size above b fits le ln) lm le

-- ---- a turn of the loop

pub walk_ends : (size above : ℕ) → pairs_then size above [] ≡ Ok above
unfolding pairs_then walk_within
walk_ends size above = refl

turn_is : (size above : ℕ) (b : List ℕ) (r : Result ℕ DataFault) → 0 < length b → (numbers_then 2 size b >>= after_pair (length b) size above b) ≡ r → pairs_then size above b ≡ r
unfolding pairs_then
turn_is size above b r some e = one_turn (length b) size above b some ∙ e

pub walk_broken : (size above : ℕ) (b : List ℕ) (fault : DataFault) → 0 < length b → numbers_then 2 size b ≡ Err fault → pairs_then size above b ≡ Err fault
walk_broken size above b fault some e = turn_is size above b (Err fault) some (rw e refl)

abbrev pub end_of : ℕ → List ℕ → ℕ
end_of above ns = above + get_or ns 0 0 + 2 + get_or ns 1 0

pub walk_passes : (size above : ℕ) (ns b rest : List ℕ) → 0 < length b → numbers_then 2 size b ≡ Ok (ns, rest) → 2 ^ 64 ≤ end_of above ns
    → pairs_then size above b ≡ Err (Malformed (size - length b))
walk_passes size above ns b rest some e past = turn_is size above b (Err (Malformed (size - length b))) some (rw (e, le-ltb (end_of above ns) (2 ^ 64) past) refl)

-- what is known of two numbers that were read
pub record TwoRead (ns rest : List ℕ) : Type 0 where
  pub first : get_or ns 0 0 < 2 ^ 64
  pub second : get_or ns 1 0 < 2 ^ 64
  pub fits : IsBytes rest

two_are : (at : ℕ) (b : List ℕ) (ns rest : List ℕ) → IsBytes b → NumbersAre 2 at b (Ok (ns, rest)) → TwoRead ns rest
two_are at b [] rest fits n = absurd (omega (arith, n.3))
two_are at b (h ∷ []) rest fits n = absurd (omega (arith, n.3))
two_are at b (h ∷ r ∷ []) rest fits n =
    let spells = n.2 in
    record { first = spells.2.fits; second = spells.4.2.fits; fits = bytes_behind b n.0 rest n.1 fits }
two_are at b (h ∷ r ∷ q ∷ qs) rest fits n = absurd (omega (arith, n.3))

pub two_read : (size : ℕ) (b ns rest : List ℕ) → IsBytes b → length b ≤ size → numbers_then 2 size b ≡ Ok (ns, rest) → TwoRead ns rest
two_read size b ns rest fits le e = two_are (size - length b) b ns rest fits (rw e at (numbers_are 2 size b fits le))

pub walk_goes : (size above : ℕ) (ns b rest : List ℕ) → 0 < length b → numbers_then 2 size b ≡ Ok (ns, rest) → end_of above ns < 2 ^ 64
    → IsBytes rest → length rest < length b → length b ≤ size → pairs_then size above b ≡ pairs_then size (end_of above ns) rest
unfolding pairs_then
walk_goes size above ns b rest some e below fits shorter le =
    one_turn (length b) size above b some
    ∙ rw (e, lt-ltb (end_of above ns) (2 ^ 64) below)
    (same_walk (length b) (suc (length rest)) size (end_of above ns) rest fits (omega (arith, shorter, le)) shorter (omega arith))
