-- One turn of the encoder's loop, which goes from the last byte to the first.
use Rattle.std.proofs.Common.{◌≡◌, ℕ, zero, suc, ◌+◌, ◌-◌, ◌*◌, ◌/◌, ◌%◌, ◌^◌, ◌<◌, ◌≤◌, List, [], ◌∷◌, length, take, drop, set, refl, sym, ap, subst, ◌∙◌, arith}
use Rattle.std.proofs.lemmas.List.{drop-set, length-take, length-drop}
use Rattle.std.proofs.lemmas.Nat.{and_mask, or_shifted, div_below, le-div}
use Rattle.std.proofs.Math.Nat.{pow-suc}
use Rattle.std.specs.Prelude.{bit_and, bit_or}
use Rattle.rtmfp_vlu.specs.Vlu.{value, IsContinued, IsEnded, IsUnpadded, Shortest, vlu}
use Rattle.rtmfp_vlu.proofs.Shortest.{Needs, Needs-shortest, Shortest-vlu}

-- what stands from an index to the end of the spelling
abbrev pub written : ℕ → ℕ → List ℕ → List ℕ
written len at out = take (len - at) (drop at out)

-- the bytes from at on are written, and the number before them is still to be written
pub record Tail (v len at rest : ℕ) (out : List ℕ) : Type 0 where
  pub within : at < len
  pub ended : IsEnded (written len at out)
  pub sum : value (written len at out) + rest / 128 * 128 ^ (len - at) ≡ v
  pub enough : rest / 128 < 128 ^ at
  pub least : 0 < at → 128 ^ (at - 1) ≤ rest / 128
  pub unpadded : at ≡ 0 → IsUnpadded (written len at out)

written_more : (len at b : ℕ) (out : List ℕ) → at < len → len ≤ length out → written len at (set out at b) ≡ b ∷ written len (at + 1) out
written_more len at b out lt le =
    let here : at < length out = omega arith in
    let one : len - at ≡ suc (len - (at + 1)) = omega arith in
    rw (drop-set out at b here, one) refl

pub IsEnded-cons : (b : ℕ) (s : List ℕ) → IsContinued b → IsEnded s → IsEnded (b ∷ s)
IsEnded-cons b [] c e = absurd e
IsEnded-cons b (x ∷ s) c e = (c, e)

low_bits : (n : ℕ) → bit_and n 127 ≡ n % 128
low_bits n = and_mask n 7

pow_pred : (n : ℕ) → 0 < n → 128 ^ n ≡ 128 ^ (n - 1) * 128
pow_pred zero h = absurd (omega arith)
pow_pred (suc n) h = let same : suc n - 1 ≡ n = omega arith in rw same (pow-suc 128 n)

pub first_tail : (v len : ℕ) (out : List ℕ) → Needs v len → len ≤ length out → Tail v len (len - 1) v (set out (len - 1) (bit_and v 127))
first_tail v len out need le =
    let last : len - 1 < len = omega (arith, need.some) in
    let one : len - (len - 1 + 1) ≡ 0 = omega (arith, need.some) in
    let single : len - (len - 1) ≡ 1 = omega (arith, need.some) in
    let cells : written len (len - 1) (set out (len - 1) (bit_and v 127)) ≡ v % 128 ∷ [] = written_more len (len - 1) (bit_and v 127) out last le ∙ rw (low_bits v, one) refl in
    record {
      within = last;
      ended = rw cells (omega arith);
      sum = rw (cells, single) (omega arith);
      enough = div_below v 128 (128 ^ (len - 1)) (omega arith) (omega (arith, pow_pred len need.some, need.enough));
      least = λ lt. le-div (128 ^ (len - 1 - 1)) v 128 (omega arith) (omega (arith, pow_pred (len - 1) lt, need.least (omega (arith, lt))));
      unpadded = λ e. rw cells (λ f. omega (arith, f));
    }

-- a group with the high bit set
continued_group : (n : ℕ) → bit_or 128 (bit_and n 127) ≡ 128 + n % 128
continued_group n = rw (low_bits n) (or_shifted 1 7 (n % 128) (omega arith))

-- the group that is taken off a number
regroup : (v t r p : ℕ) → t + r * p ≡ v → r % 128 * p + t + r / 128 * (p * 128) ≡ v
regroup v t r p h =
    let parts : r ≡ r / 128 * 128 + r % 128 = omega arith in
    let whole : r * p ≡ (r / 128 * 128 + r % 128) * p = ap (λ (n : ℕ). n * p) parts in
    omega (arith, whole, h)

length_written : (len at : ℕ) (out : List ℕ) → at < len → len ≤ length out → length (written len at out) ≡ len - at
length_written len at out lt le = omega (arith, length-take (len - at) (drop at out), length-drop at out)

pub next_tail : (v len at rest : ℕ) (out : List ℕ) → len ≤ length out → 0 < at → Tail v len at rest out
    → Tail v len (at - 1) (rest / 128) (set out (at - 1) (bit_or 128 (bit_and (rest / 128) 127)))
next_tail v len at rest out le lt t =
    let high = rest / 128 in
    let back : at - 1 + 1 ≡ at = omega (arith, lt) in
    let within : at - 1 < len = omega (arith, t.within) in
    let cells : written len (at - 1) (set out (at - 1) (bit_or 128 (bit_and high 127))) ≡ (128 + high % 128) ∷ written len at out =
    written_more len (at - 1) (bit_or 128 (bit_and high 127)) out within le ∙ rw (continued_group high, back) refl in
    let longer : len - (at - 1) ≡ suc (len - at) = omega (arith, t.within) in
    let digit : (128 + high % 128) % 128 ≡ high % 128 = omega arith in
    record {
      within = within;
      ended = rw cells (IsEnded-cons (128 + high % 128) (written len at out) (omega arith, omega arith) t.ended);
      sum = rw (cells, digit, length_written len at out t.within le, longer, pow-suc 128 (len - at)) (regroup v (value (written len at out)) high (128 ^ (len - at)) t.sum);
      enough = div_below high 128 (128 ^ (at - 1)) (omega arith) (omega (arith, pow_pred at lt, t.enough));
      least = λ some. le-div (128 ^ (at - 1 - 1)) high 128 (omega arith) (omega (arith, pow_pred (at - 1) some, t.least lt));
      unpadded = λ e. rw cells (λ f.
          let one : at ≡ 1 = omega (arith, e, lt) in
          let below : high < 128 = subst (λ (n : ℕ). high < 128 ^ n) one t.enough in
          let some : 1 ≤ high = subst (λ (n : ℕ). 128 ^ (n - 1) ≤ high) one (t.least lt) in
          omega (arith, f));
    }

pub all_written : (v len rest : ℕ) (out : List ℕ) → len ≤ length out → len ≤ 10 → v < 2 ^ 64 → Tail v len 0 rest out → Shortest v (take len out)
all_written v len rest out le few fits t =
    let none : rest / 128 ≡ 0 = omega (arith, t.enough) in
    let same : len - 0 ≡ len = omega arith in
    let sum : value (written len 0 out) ≡ v = omega (arith, t.sum, ap (λ (n : ℕ). n * 128 ^ (len - 0)) none) in
    subst (λ (n : ℕ). Shortest v (take n out)) same (record {
      spells = record { size = omega (arith, length-take (len - 0) out); ended = t.ended; sum = sum; fits = fits };
      unpadded = t.unpadded refl;
    })

pub Needs-len : (v len : ℕ) → v < 2 ^ 64 → len ≡ length (vlu v) → Needs v len × (len ≤ 10)
Needs-len v len fits e = (subst (Needs v) (sym e) (Needs-shortest v (vlu v) (Shortest-vlu v fits)), omega (arith, e, (Shortest-vlu v fits).spells.size))
