-- User data reads as what spells it, and in no other way.
use Rattle.std.proofs.Common.{◌≡◌, ℕ, suc, ◌+◌, ◌-◌, ◌^◌, ◌<◌, ◌≤◌, ◌⊎◌, cond, not, Bool, true, false, List, [], ◌∷◌, ◌++◌, length, get_or, Option, Some, None, Result, Ok, Err, refl, sym, ap, subst, ◌∙◌, inl, inr, arith}
use Rattle.std.proofs.lemmas.Bool.{cases_lt, cases_eq, lt-ltb, le-ltb, eq-eqb, ne_eqb}
use Rattle.std.proofs.lemmas.List.{length-append}
use Rattle.rtmfp_vlu.specs.Vlu.{VluSpells}
use Rattle.rtmfp_vlu.proofs.Bytes.{IsBytes, IsBytes-tail}
use Rattle.rtmfp_forms.specs.OptionReading.{◌>>=◌}
use Rattle.rtmfp_data_chunks.specs.declared.user_data.Numbers.{Numbers}
use Rattle.rtmfp_data_chunks.specs.declared.view.DataFault.{DataFault}
use Rattle.rtmfp_data_chunks.specs.declared.view.DataFault.TheVariants.{Unknown, Malformed, BadOffset}
use Rattle.rtmfp_data_chunks.specs.Chunk.{UserParts}
use Rattle.rtmfp_data_chunks.specs.Fields.{NumbersSpell, NoNumber, NumbersBreak, flag}
use Rattle.rtmfp_data_chunks.specs.Spelling.{UserSpells, HasBadOffset, HasBadOptions, FlaggedBreak, UserBreaks, NextSpells, NextBodyBreaks, NextBreaks}
use Rattle.rtmfp_data_chunks.specs.Reader.{number_then, numbers_then, user_then, is_bad_offset, data_then, next_body, next_then}
use Rattle.rtmfp_data_chunks.proofs.NumberLaws.{bytes_behind, NumberIs, number_is, number_found, number_none, NumbersAre, numbers_are, numbers_found, numbers_broken}
use Rattle.rtmfp_data_chunks.proofs.OptionLists.{UserFound, UserIs, user_is, user_found, user_broken}

-- ---- the offset of the forward number

abbrev IsBad : ℕ → ℕ → ℕ → Type 0
IsBad flags seq behind = (seq < behind) ⊎ ((behind ≡ 0) × (flag flags 1 ≡ false))

abbrev IsGood : ℕ → ℕ → ℕ → Type 0
IsGood flags seq behind = (behind ≤ seq) × (behind ≡ 0 → flag flags 1 ≡ true)

not_true : (b : Bool) → not b ≡ true → b ≡ false
not_true true e = absurd (cc)
not_true false e = refl

not_false : (b : Bool) → not b ≡ false → b ≡ true
not_false true e = refl
not_false false e = absurd (cc)

abbrev OffsetIs : ℕ → ℕ → ℕ → Bool → Type 0
OffsetIs flags seq behind true = IsBad flags seq behind
OffsetIs flags seq behind false = IsGood flags seq behind

flag_is : (flags seq behind : ℕ) (t : Bool) → flag flags 1 ≡ t → behind ≤ seq → behind ≡ 0 → OffsetIs flags seq behind (not t)
flag_is flags seq behind true f le none = (le, λ e. f)
flag_is flags seq behind false f le none = inr (none, f)

offset_is : (flags seq behind : ℕ) → OffsetIs flags seq behind (is_bad_offset flags seq behind)
offset_is flags seq behind =
    elim (cases_lt seq behind) [
      | inl lt ↦ rw (lt-ltb seq behind lt) (inl lt)
      | inr le ↦ elim (cases_eq behind 0) [
        | inl none ↦ rw (le-ltb seq behind le, eq-eqb behind 0 none) (flag_is flags seq behind (flag flags 1) refl le none)
        | inr some ↦ rw (le-ltb seq behind le, ne_eqb behind 0 some) (le, λ e. absurd (some e))
      ]
    ]

bad_again : (flags seq behind : ℕ) → IsBad flags seq behind → is_bad_offset flags seq behind ≡ true
bad_again flags seq behind (inl lt) = rw (lt-ltb seq behind lt) refl
bad_again flags seq behind (inr (none, f)) = rw (le-ltb seq behind (omega (arith, none)), eq-eqb behind 0 none, f) refl

good_again : (flags seq behind : ℕ) → IsGood flags seq behind → is_bad_offset flags seq behind ≡ false
good_again flags seq behind good =
    elim (cases_eq behind 0) [
      | inl none ↦ rw (le-ltb seq behind good.0, eq-eqb behind 0 none, good.1 none) refl
      | inr some ↦ rw (le-ltb seq behind good.0, ne_eqb behind 0 some) refl
    ]

-- ---- data: what the reader gives is so

abbrev pub DataIs : List ℕ → Result UserParts DataFault → Type 0
DataIs b (Ok user) = UserSpells user b
DataIs b (Err (Unknown told)) = ⊥
DataIs b (Err (Malformed at)) = UserBreaks b at
DataIs b (Err (BadOffset at)) = HasBadOffset b at

-- the numbers stand behind the flags
pub record Front (flow seq behind : ℕ) (b numbers offset rest : List ℕ) : Type 0 where
  pub flow_seq : NumbersSpell (flow ∷ seq ∷ []) numbers
  pub forward : VluSpells behind offset
  pub whole : b ≡ numbers ++ (offset ++ rest)

front_size : (flow seq behind : ℕ) (b numbers offset rest : List ℕ) → Front flow seq behind b numbers offset rest → length b ≡ length numbers + (length offset + length rest)
front_size flow seq behind b numbers offset rest f = omega (arith, ap length f.whole, length-append numbers (offset ++ rest), length-append offset rest)

abbrev data_numbers : ℕ → ℕ → ℕ → Numbers
data_numbers flow seq behind = record { flow = flow; seq = seq; forward = seq - behind }

abbrev after_offset : ℕ → List ℕ → List ℕ × List ℕ → ℕ × List ℕ → Result UserParts DataFault
after_offset flags b numbers behind =
    cond (is_bad_offset flags (get_or numbers.0 1 0) behind.0)
    (Err (BadOffset (suc (length b) - length numbers.1)))
    (user_then flags (data_numbers (get_or numbers.0 0 0) (get_or numbers.0 1 0) behind.0) (suc (length b)) behind.1)

abbrev after_numbers : ℕ → List ℕ → List ℕ × List ℕ → Result UserParts DataFault
after_numbers flags b numbers = number_then (suc (length b)) numbers.1 >>= after_offset flags b numbers

user_spelled : (flags flow seq behind : ℕ) (b numbers offset rest : List ℕ) (user : UserParts) → Front flow seq behind b numbers offset rest → IsGood flags seq behind
    → UserFound flags (data_numbers flow seq behind) rest user → UserSpells user (flags ∷ b)
user_spelled flags flow seq behind b numbers offset rest user f good u =
    let told : NumbersSpell (user.flow ∷ user.seq ∷ []) numbers = rw (u.flow, u.seq) f.flow_seq in
    let back : behind ≡ user.seq - user.forward = omega (arith, u.seq, u.forward, good.0) in
    record {
      flags = flags;
      numbers = numbers;
      offset = offset;
      options = u.options;
      tell = u.tell;
      flow_seq = told;
      is_behind = (omega (arith, u.seq, u.forward), λ e. sym u.tell.abandon ∙ good.1 (omega (arith, e, u.seq, u.forward, good.0)));
      forward = subst (λ (n : ℕ). VluSpells n offset) back f.forward;
      stand = u.stand;
      whole = ap (λ (t : List ℕ). flags ∷ t) (f.whole ∙ ap (λ (t : List ℕ). numbers ++ (offset ++ t)) u.whole);
    }

data_user : (flags flow seq behind : ℕ) (b numbers offset rest : List ℕ) (r : Result UserParts DataFault) → Front flow seq behind b numbers offset rest → IsGood flags seq behind
    → UserIs flags (data_numbers flow seq behind) (suc (length b) - length rest) rest r → DataIs (flags ∷ b) r
data_user flags flow seq behind b numbers offset rest (Ok user) f good u = user_spelled flags flow seq behind b numbers offset rest user f good u
data_user flags flow seq behind b numbers offset rest (Err (Unknown told)) f good u = u
data_user flags flow seq behind b numbers offset rest (Err (Malformed begins)) f good u = inr record {
  flags = flags;
  flow = flow;
  seq = seq;
  behind = behind;
  numbers = numbers;
  offset = offset;
  rest = rest;
  flow_seq = f.flow_seq;
  forward = f.forward;
  good = good;
  breaks = u.0;
  whole = ap (λ (t : List ℕ). flags ∷ t) f.whole;
  begins = omega (arith, u.1, front_size flow seq behind b numbers offset rest f);
}
data_user flags flow seq behind b numbers offset rest (Err (BadOffset begins)) f good u = absurd u

data_checked : (flags flow seq behind : ℕ) (b numbers offset rest : List ℕ) (t : Bool) → IsBytes rest → Front flow seq behind b numbers offset rest → OffsetIs flags seq behind t
    → DataIs (flags ∷ b) (cond t (Err (BadOffset (suc (length b) - length (offset ++ rest)))) (user_then flags (data_numbers flow seq behind) (suc (length b)) rest))
data_checked flags flow seq behind b numbers offset rest true fits f bad = record {
  flags = flags;
  flow = flow;
  seq = seq;
  behind = behind;
  numbers = numbers;
  offset = offset;
  rest = rest;
  flow_seq = f.flow_seq;
  forward = f.forward;
  bad = bad;
  whole = ap (λ (t : List ℕ). flags ∷ t) f.whole;
  begins = omega (arith, front_size flow seq behind b numbers offset rest f, length-append offset rest);
}
data_checked flags flow seq behind b numbers offset rest false fits f good =
    data_user flags flow seq behind b numbers offset rest (user_then flags (data_numbers flow seq behind) (suc (length b)) rest) f good
    (user_is flags (data_numbers flow seq behind) (suc (length b)) rest fits)

data_offset : (flags flow seq : ℕ) (b numbers after : List ℕ) (r : Result (ℕ × List ℕ) DataFault) → IsBytes after → b ≡ numbers ++ after → NumbersSpell (flow ∷ seq ∷ []) numbers
    → NumberIs (suc (length b) - length after) after r → DataIs (flags ∷ b) (r >>= after_offset flags b (flow ∷ seq ∷ [], after))
data_offset flags flow seq b numbers after (Ok found) fits e h n =
    let f : Front flow seq found.0 b numbers n.0 found.1 = record { flow_seq = h; forward = n.2; whole = e ∙ ap (λ (t : List ℕ). numbers ++ t) n.1 } in
    let P : List ℕ → Type 0 = λ t. DataIs (flags ∷ b) (cond (is_bad_offset flags seq found.0) (Err (BadOffset (suc (length b) - length t))) (user_then flags (data_numbers flow seq found.0) (suc (length b)) found.1)) in
    subst P (sym n.1) (data_checked flags flow seq found.0 b numbers n.0 found.1 (is_bad_offset flags seq found.0) (bytes_behind after n.0 found.1 n.1 fits) f (offset_is flags seq found.0))
data_offset flags flow seq b numbers after (Err (Unknown told)) fits e h n = n
data_offset flags flow seq b numbers after (Err (Malformed begins)) fits e h n = inl (
  length numbers,
  record { numbers = flow ∷ seq ∷ []; front = numbers; rest = after; fewer = omega arith; spell = h; whole = e; none = n.0; begins = refl },
  omega (arith, n.1, ap length e, length-append numbers after),
)
data_offset flags flow seq b numbers after (Err (BadOffset begins)) fits e h n = absurd n

data_behind : (flags : ℕ) (b : List ℕ) (r : Result (List ℕ × List ℕ) DataFault) → IsBytes b → NumbersAre 2 (suc (length b) - length b) b r → DataIs (flags ∷ b) (r >>= after_numbers flags b)
data_behind flags b (Ok ([], rest)) fits n = absurd (omega (arith, n.3))
data_behind flags b (Ok (flow ∷ [], rest)) fits n = absurd (omega (arith, n.3))
data_behind flags b (Ok (flow ∷ seq ∷ [], rest)) fits n =
    let after = bytes_behind b n.0 rest n.1 fits in
    data_offset flags flow seq b n.0 rest (number_then (suc (length b)) rest) after n.1 n.2 (number_is (suc (length b)) rest after)
data_behind flags b (Ok (flow ∷ seq ∷ more ∷ others, rest)) fits n = absurd (omega (arith, n.3))
data_behind flags b (Err (Unknown told)) fits n = n
data_behind flags b (Err (Malformed begins)) fits n =
    let m = n.1 in
    inl (n.0, record { numbers = m.numbers; front = m.front; rest = m.rest; fewer = omega (arith, m.fewer); spell = m.spell; whole = m.whole; none = m.none; begins = m.begins }, omega (arith, n.2))
data_behind flags b (Err (BadOffset begins)) fits n = absurd n

pub data_is : (b : List ℕ) → IsBytes b → DataIs b (data_then b)
unfolding data_then
data_is [] fits = inl refl
data_is (flags ∷ b) fits =
    let behind = IsBytes-tail flags b fits in
    data_behind flags b (numbers_then 2 (suc (length b)) b) behind (numbers_are 2 (suc (length b)) b behind (omega arith))

-- ---- data: what is so is what the reader gives

front_read : (flags flow seq behind : ℕ) (b numbers offset rest : List ℕ) → Front flow seq behind b numbers offset rest
    → data_then (flags ∷ b)
    ≡ cond (is_bad_offset flags seq behind) (Err (BadOffset (suc (length b) - length (offset ++ rest)))) (user_then flags (data_numbers flow seq behind) (suc (length b)) rest)
unfolding data_then
front_read flags flow seq behind b numbers offset rest f =
    rw (numbers_found (flow ∷ seq ∷ []) (suc (length b)) b numbers (offset ++ rest) f.whole f.flow_seq, number_found (suc (length b)) behind (offset ++ rest) offset rest refl f.forward) refl

pub data_found : (b : List ℕ) (user : UserParts) → UserSpells user b → data_then b ≡ Ok user
data_found b user h =
    let behind = user.seq - user.forward in
    let rest = h.options ++ user.bytes in
    let after = h.numbers ++ (h.offset ++ rest) in
    let f : Front user.flow user.seq behind after h.numbers h.offset rest = record { flow_seq = h.flow_seq; forward = h.forward; whole = refl } in
    let good : IsGood h.flags user.seq behind = (omega arith, λ e. h.tell.abandon ∙ h.is_behind.1 (omega (arith, e, h.is_behind.0))) in
    let found : UserFound h.flags (data_numbers user.flow user.seq behind) rest user =
    record { options = h.options; whole = refl; stand = h.stand; tell = h.tell; flow = refl; seq = refl; forward = omega (arith, h.is_behind.0) } in
    ap data_then h.whole
    ∙ (front_read h.flags user.flow user.seq behind after h.numbers h.offset rest f
    ∙ rw (good_again h.flags user.seq behind good) (user_found h.flags (data_numbers user.flow user.seq behind) (suc (length after)) rest user found))

pub data_bad : (b : List ℕ) (at : ℕ) → HasBadOffset b at → data_then b ≡ Err (BadOffset at)
data_bad b at h =
    let after = h.numbers ++ (h.offset ++ h.rest) in
    let f : Front h.flow h.seq h.behind after h.numbers h.offset h.rest = record { flow_seq = h.flow_seq; forward = h.forward; whole = refl } in
    let begins : suc (length after) - length (h.offset ++ h.rest) ≡ at = omega (arith, h.begins, length-append h.numbers (h.offset ++ h.rest)) in
    ap data_then h.whole
    ∙ (front_read h.flags h.flow h.seq h.behind after h.numbers h.offset h.rest f ∙ rw (bad_again h.flags h.seq h.behind h.bad) (ap (λ (n : ℕ). Err (BadOffset n)) begins))

data_bad_options : (b : List ℕ) (at : ℕ) → HasBadOptions b at → data_then b ≡ Err (Malformed at)
data_bad_options b at h =
    let after = h.numbers ++ (h.offset ++ h.rest) in
    let f : Front h.flow h.seq h.behind after h.numbers h.offset h.rest = record { flow_seq = h.flow_seq; forward = h.forward; whole = refl } in
    let begins : suc (length after) - length h.rest ≡ at = omega (arith, h.begins, front_size h.flow h.seq h.behind after h.numbers h.offset h.rest f) in
    ap data_then h.whole
    ∙ (front_read h.flags h.flow h.seq h.behind after h.numbers h.offset h.rest f
    ∙ rw (good_again h.flags h.seq h.behind h.good) (user_broken h.flags (data_numbers h.flow h.seq h.behind) (suc (length after)) h.rest h.breaks ∙ ap (λ (n : ℕ). Err (Malformed n)) begins))

few_numbers : (flags : ℕ) (b : List ℕ) (within : ℕ) → NumbersBreak 2 b within → data_then (flags ∷ b) ≡ Err (Malformed (1 + within))
unfolding data_then
few_numbers flags b within h =
    let begins : suc (length b) - length b + within ≡ 1 + within = omega arith in
    rw (numbers_broken 2 (suc (length b)) b within h (omega arith)) (ap (λ (n : ℕ). Err (Malformed n)) begins)

no_offset : (flags flow seq : ℕ) (b front rest : List ℕ) → b ≡ front ++ rest → NumbersSpell (flow ∷ seq ∷ []) front → NoNumber rest → data_then (flags ∷ b) ≡ Err (Malformed (1 + length front))
unfolding data_then
no_offset flags flow seq b front rest e h none =
    let begins : suc (length b) - length rest ≡ 1 + length front = omega (arith, ap length e, length-append front rest) in
    rw (numbers_found (flow ∷ seq ∷ []) (suc (length b)) b front rest e h, number_none (suc (length b)) rest none) (ap (λ (n : ℕ). Err (Malformed n)) begins)

numbers_missing : (flags : ℕ) (b front rest ns : List ℕ) → b ≡ front ++ rest → NumbersSpell ns front → length ns < 3 → NoNumber rest → data_then (flags ∷ b) ≡ Err (Malformed (1 + length front))
numbers_missing flags b front rest [] e h fewer none =
    few_numbers flags b (length front) record { numbers = []; front = front; rest = rest; fewer = omega arith; spell = h; whole = e; none = none; begins = refl }
numbers_missing flags b front rest (flow ∷ []) e h fewer none =
    few_numbers flags b (length front) record { numbers = flow ∷ []; front = front; rest = rest; fewer = omega arith; spell = h; whole = e; none = none; begins = refl }
numbers_missing flags b front rest (flow ∷ seq ∷ []) e h fewer none = no_offset flags flow seq b front rest e h none
numbers_missing flags b front rest (flow ∷ seq ∷ more ∷ others) e h fewer none = absurd (omega (arith, fewer))

no_flags : data_then [] ≡ Err (Malformed 0)
unfolding data_then
no_flags = refl

flagged_missing : (b : List ℕ) (at : ℕ) → FlaggedBreak 3 b at → data_then b ≡ Err (Malformed at)
flagged_missing [] at h = no_flags ∙ ap (λ (n : ℕ). Err (Malformed n)) (sym h)
flagged_missing (flags ∷ b) at (within, h, begins) =
    numbers_missing flags b h.front h.rest h.numbers h.whole h.spell h.fewer h.none ∙ ap (λ (n : ℕ). Err (Malformed n)) (omega (arith, begins, h.begins))

pub data_broken : (b : List ℕ) (at : ℕ) → UserBreaks b at → data_then b ≡ Err (Malformed at)
data_broken b at (inl h) = flagged_missing b at h
data_broken b at (inr h) = data_bad_options b at h

-- ---- next

abbrev pub NextIs : Option Numbers → List ℕ → Result UserParts DataFault → Type 0
NextIs last b (Ok user) = NextSpells user last b
NextIs last b (Err (Unknown told)) = ⊥
NextIs last b (Err (Malformed at)) = NextBreaks last b at
NextIs last b (Err (BadOffset at)) = ⊥

abbrev next_numbers : Numbers → Numbers
next_numbers before = record { flow = before.flow; seq = before.seq + 1; forward = before.forward }

next_user : (before : Numbers) (flags : ℕ) (b : List ℕ) (r : Result UserParts DataFault) → before.seq + 1 < 2 ^ 64 → UserIs flags (next_numbers before) (suc (length b) - length b) b r → NextIs (Some before) (flags ∷ b) r
next_user before flags b (Ok user) below u = record {
  flags = flags;
  options = u.options;
  tell = u.tell;
  has_next = below;
  follows = (u.flow, u.seq, u.forward);
  stand = u.stand;
  whole = ap (λ (t : List ℕ). flags ∷ t) u.whole;
}
next_user before flags b (Err (Unknown told)) below u = u
next_user before flags b (Err (Malformed at)) below u = inr (below, (u.0, omega (arith, u.1)))
next_user before flags b (Err (BadOffset at)) below u = absurd u

body_is : (before : Numbers) (b : List ℕ) → IsBytes b → before.seq + 1 < 2 ^ 64 → NextIs (Some before) b (next_body (next_numbers before) b)
body_is before [] fits below = inr (below, refl)
body_is before (flags ∷ b) fits below =
    next_user before flags b (user_then flags (next_numbers before) (suc (length b)) b) below (user_is flags (next_numbers before) (suc (length b)) b (IsBytes-tail flags b fits))

pub next_is : (last : Option Numbers) (b : List ℕ) → IsBytes b → NextIs last b (next_then last b)
unfolding next_then
next_is None b fits = inl (λ h. h, refl)
next_is (Some before) b fits =
    elim (cases_lt (before.seq + 1) (2 ^ 64)) [
      | inl below ↦ rw (lt-ltb (before.seq + 1) (2 ^ 64) below) (body_is before b fits below)
      | inr past ↦ rw (le-ltb (before.seq + 1) (2 ^ 64) past) (inl (λ h. omega (arith, h, past), refl))
    ]

goes_on : (before : Numbers) (b : List ℕ) → before.seq + 1 < 2 ^ 64 → next_then (Some before) b ≡ next_body (next_numbers before) b
unfolding next_then
goes_on before b below = rw (lt-ltb (before.seq + 1) (2 ^ 64) below) refl

pub next_found : (last : Option Numbers) (b : List ℕ) (user : UserParts) → NextSpells user last b → next_then last b ≡ Ok user
next_found None b user h = absurd h.has_next
next_found (Some before) b user h =
    let rest = h.options ++ user.bytes in
    let found : UserFound h.flags (next_numbers before) rest user =
    record { options = h.options; whole = refl; stand = h.stand; tell = h.tell; flow = h.follows.0; seq = h.follows.1; forward = h.follows.2 } in
    goes_on before b h.has_next ∙ (ap (next_body (next_numbers before)) h.whole ∙ user_found h.flags (next_numbers before) (suc (length rest)) rest user found)

body_broken : (before : Numbers) (b : List ℕ) (at : ℕ) → NextBodyBreaks b at → next_body (next_numbers before) b ≡ Err (Malformed at)
body_broken before [] at h = ap (λ (n : ℕ). Err (Malformed n)) (sym h)
body_broken before (flags ∷ b) at (breaks, begins) =
    let same : suc (length b) - length b ≡ at = omega (arith, begins) in
    user_broken flags (next_numbers before) (suc (length b)) b breaks ∙ ap (λ (n : ℕ). Err (Malformed n)) same

pub next_broken : (last : Option Numbers) (b : List ℕ) (at : ℕ) → NextBreaks last b at → next_then last b ≡ Err (Malformed at)
unfolding next_then
next_broken None b at (inl (none, begins)) = ap (λ (n : ℕ). Err (Malformed n)) (sym begins)
next_broken None b at (inr (next, h)) = absurd next
next_broken (Some before) b at (inl (none, begins)) =
    elim (cases_lt (before.seq + 1) (2 ^ 64)) [
      | inl below ↦ absurd (none below)
      | inr past ↦ rw (le-ltb (before.seq + 1) (2 ^ 64) past) (ap (λ (n : ℕ). Err (Malformed n)) (sym begins))
    ]
next_broken (Some before) b at (inr (below, h)) = rw (lt-ltb (before.seq + 1) (2 ^ 64) below) (body_broken before b at h)
