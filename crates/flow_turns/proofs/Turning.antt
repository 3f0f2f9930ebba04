-- A set of turns: what goes in and out of it, and the first from one on.
use Rattle.std.proofs.Common.{◌≡◌, ◌≢◌, ℕ, ◌+◌, ◌-◌, ◌*◌, ◌/◌, ◌%◌, ◌^◌, ◌<◌, ◌≤◌, ◌==◌, true, false, List, length, get_or, set, replicate, ap, sym, ◌∙◌, subst, arith, inl, inr, bit_and, bit_or}
use Rattle.std.specs.Int.{w32, w64, bit_at, bit_not, trailing_zeros}
use Rattle.std.proofs.lemmas.Bool.{cases_eq, cases_lt}
use Rattle.std.proofs.lemmas.List.{get_or-set_same, get_or-set_other, get_or_past, get_or-replicate, length-replicate}
use Rattle.std.proofs.lemmas.Nat.{shr-shr, shr_le}
use Rattle.std.proofs.lemmas.Nat.Bits.{bit_at_set_same, bit_at_set_other, bit_at_clear_same, bit_at_clear_other, bit_at-trailing_zeros, bit_at-zero, bit_at_above}
use Rattle.flow_turns.specs.Turns.{has_turn, IsFirst, IsLowestBit, IsTied}

-- ---- none

abbrev pub zeros : ℕ → List ℕ
zeros n = replicate n 0

none_at : (n i : ℕ) → get_or (zeros n) i 0 ≡ 0
none_at n i = elim (cases_lt i n) [ inl less ↦ get_or-replicate n i 0 0 less | inr past ↦ get_or_past (zeros n) i 0 (subst (λ k. k ≤ i) (sym (length-replicate n (let z : ℕ = 0 in z))) past) ]

pub none_of : (n turn : ℕ) → has_turn (zeros n) turn ≡ false
none_of n turn = ap (λ (w : ℕ). bit_at w (turn % 64) == 1) (none_at n (turn / 64)) ∙ ap (λ (b : ℕ). b == 1) (bit_at-zero (turn % 64))

pub none_in : (turn : ℕ) → has_turn (zeros 32) turn ≡ false
none_in turn = none_of 32 turn

clash : (i : ℕ) → bit_at 0 i ≡ 1 → ⊥
clash i e = absurd (let z : bit_at 0 i ≡ 0 = bit_at-zero i in omega (arith, e, z))

pub tied_none : IsTied 0 (zeros 32)
tied_none = record { empty = λ w within e. none_at 32 w; used = λ w within e. absurd (clash w e) }

-- ---- one that changes

pub bits_other : (words : List ℕ) (turn t w : ℕ) → turn / 64 < length words → t ≢ turn → ((i : ℕ) → i < 64 → i ≢ turn % 64 → bit_at w i ≡ bit_at (get_or words (turn / 64) 0) i) →
    has_turn (set words (turn / 64) w) t ≡ has_turn words t
bits_other words turn t w inside differ rest =
    elim (cases_eq (t / 64) (turn / 64)) [
      | inl same ↦
          let here : get_or (set words (turn / 64) w) (t / 64) 0 ≡ w = ap (λ s. get_or (set words (turn / 64) w) s 0) same ∙ get_or-set_same words (turn / 64) w 0 inside in
          ap (λ (x : ℕ). bit_at x (t % 64) == 1) here
          ∙ ap (λ (b : ℕ). b == 1) (rest (t % 64) (omega arith) (λ e. differ (omega (arith, same, e))) ∙ ap (λ s. bit_at (get_or words s 0) (t % 64)) (sym same))
      | inr other ↦ ap (λ (x : ℕ). bit_at x (t % 64) == 1) (get_or-set_other words (turn / 64) (t / 64) w 0 other)
    ]

pub bit_own : (words : List ℕ) (turn w n : ℕ) → turn / 64 < length words → bit_at w (turn % 64) ≡ n → has_turn (set words (turn / 64) w) turn ≡ (n == 1)
bit_own words turn w n inside e = ap (λ (x : ℕ). bit_at x (turn % 64) == 1) (get_or-set_same words (turn / 64) w 0 inside) ∙ ap (λ (b : ℕ). b == 1) e

-- ---- one that is put in

abbrev pub with_bit : ℕ → ℕ → ℕ
with_bit word k = bit_or word (1 * 2 ^ k % 2 ^ 64)

abbrev pub without_bit : ℕ → ℕ → ℕ
without_bit word k = bit_and word (bit_not w64 (1 * 2 ^ k % 2 ^ 64))

pub put_own : (words : List ℕ) (turn : ℕ) → length words ≡ 32 → turn < 2048 → has_turn (set words (turn / 64) (with_bit (get_or words (turn / 64) 0) (turn % 64))) turn ≡ true
put_own words turn len few = bit_own words turn (with_bit (get_or words (turn / 64) 0) (turn % 64)) 1 (omega (arith, len, few)) (bit_at_set_same w64 (get_or words (turn / 64) 0) (turn % 64) (omega arith))

pub put_others : (words : List ℕ) (turn t : ℕ) → length words ≡ 32 → turn < 2048 → t ≢ turn →
    has_turn (set words (turn / 64) (with_bit (get_or words (turn / 64) 0) (turn % 64))) t ≡ has_turn words t
put_others words turn t len few differ = bits_other words turn t (with_bit (get_or words (turn / 64) 0) (turn % 64)) (omega (arith, len, few)) differ
    (λ i within other. bit_at_set_other w64 (get_or words (turn / 64) 0) (turn % 64) (omega arith) i other)

positive : (n i : ℕ) → bit_at n i ≡ 1 → 0 < n
positive n i e = elim (cases_eq n 0) [ inl none ↦ absurd (clash i (sym (ap (λ x. bit_at x i) none) ∙ e)) | inr some ↦ omega (arith, some) ]

no_zero : (n : ℕ) → n ≡ 0 → n ≡ 1 → ⊥
no_zero n a b = absurd (omega (arith, a, b))

pub put_tied : (full : ℕ) (words : List ℕ) (turn : ℕ) → length words ≡ 32 → turn < 2048 → IsTied full words →
    IsTied (bit_or full (1 * 2 ^ (turn / 64) % 2 ^ 32)) (set words (turn / 64) (with_bit (get_or words (turn / 64) 0) (turn % 64)))
put_tied full words turn len few h =
    let word : ℕ = with_bit (get_or words (turn / 64) 0) (turn % 64) in
    let some : 0 < word = positive word (turn % 64) (bit_at_set_same w64 (get_or words (turn / 64) 0) (turn % 64) (omega arith)) in
    let own : bit_at (bit_or full (1 * 2 ^ (turn / 64) % 2 ^ 32)) (turn / 64) ≡ 1 = bit_at_set_same w32 full (turn / 64) (omega (arith, few)) in
    record {
      empty = λ w within e. elim (cases_eq w (turn / 64)) [
        | inl same ↦ absurd (no_zero _ (sym (ap (λ i. bit_at (bit_or full (1 * 2 ^ (turn / 64) % 2 ^ 32)) i) same) ∙ e) own)
        | inr other ↦ get_or-set_other words (turn / 64) w word 0 other ∙ h.empty w within (sym (bit_at_set_other w32 full (turn / 64) (omega (arith, few)) w other) ∙ e)
      ];
      used = λ w within e. elim (cases_eq w (turn / 64)) [
        | inl same ↦ subst (λ n. 0 < n) (sym (ap (λ s. get_or (set words (turn / 64) word) s 0) same ∙ get_or-set_same words (turn / 64) word 0 (omega (arith, len, few)))) some
        | inr other ↦ subst (λ n. 0 < n) (sym (get_or-set_other words (turn / 64) w word 0 other)) (h.used w within (sym (bit_at_set_other w32 full (turn / 64) (omega (arith, few)) w other) ∙ e))
      ];
    }

-- ---- one that is taken out

pub out_own : (words : List ℕ) (turn : ℕ) → length words ≡ 32 → turn < 2048 → has_turn (set words (turn / 64) (without_bit (get_or words (turn / 64) 0) (turn % 64))) turn ≡ false
out_own words turn len few = bit_own words turn (without_bit (get_or words (turn / 64) 0) (turn % 64)) 0 (omega (arith, len, few)) (bit_at_clear_same w64 (get_or words (turn / 64) 0) (turn % 64) (omega arith))

pub out_others : (words : List ℕ) (turn t : ℕ) → length words ≡ 32 → turn < 2048 → t ≢ turn →
    has_turn (set words (turn / 64) (without_bit (get_or words (turn / 64) 0) (turn % 64))) t ≡ has_turn words t
out_others words turn t len few differ = bits_other words turn t (without_bit (get_or words (turn / 64) 0) (turn % 64)) (omega (arith, len, few)) differ
    (λ i within other. bit_at_clear_other w64 (get_or words (turn / 64) 0) (turn % 64) (omega arith) i within other)

-- the word is empty then
pub out_empty : (full word : ℕ) (words : List ℕ) (at : ℕ) → length words ≡ 32 → at < 32 → word ≡ 0 → IsTied full words →
    IsTied (bit_and full (bit_not w32 (1 * 2 ^ at % 2 ^ 32))) (set words at word)
out_empty full word words at len few none h = record {
  empty = λ w within e. elim (cases_eq w at) [
    | inl same ↦ ap (λ s. get_or (set words at word) s 0) same ∙ get_or-set_same words at word 0 (omega (arith, len, few)) ∙ none
    | inr other ↦ get_or-set_other words at w word 0 other ∙ h.empty w within (sym (bit_at_clear_other w32 full at few w within other) ∙ e)
  ];
  used = λ w within e. elim (cases_eq w at) [
    | inl same ↦ absurd (no_zero _ (bit_at_clear_same w32 full at few) (sym (ap (λ i. bit_at (bit_and full (bit_not w32 (1 * 2 ^ at % 2 ^ 32))) i) same) ∙ e))
    | inr other ↦ subst (λ n. 0 < n) (sym (get_or-set_other words at w word 0 other)) (h.used w within (sym (bit_at_clear_other w32 full at few w within other) ∙ e))
  ];
}

-- it isn't
pub out_used : (full word : ℕ) (words : List ℕ) (at : ℕ) → length words ≡ 32 → at < 32 → word ≤ get_or words at 0 → 0 < word → IsTied full words → IsTied full (set words at word)
out_used full word words at len few less some h = record {
  empty = λ w within e. elim (cases_eq w at) [
    | inl same ↦ absurd (let z : get_or words at 0 ≡ 0 = h.empty at few (sym (ap (λ i. bit_at full i) same) ∙ e) in omega (arith, z, less, some))
    | inr other ↦ get_or-set_other words at w word 0 other ∙ h.empty w within e
  ];
  used = λ w within e. elim (cases_eq w at) [
    | inl same ↦ subst (λ n. 0 < n) (sym (ap (λ s. get_or (set words at word) s 0) same ∙ get_or-set_same words at word 0 (omega (arith, len, few)))) some
    | inr other ↦ subst (λ n. 0 < n) (sym (get_or-set_other words at w word 0 other)) (h.used w within e)
  ];
}

-- ---- the lowest bit

behind : (word k j : ℕ) → bit_at (word / 2 ^ k) j ≡ bit_at word (k + j)
behind word k j = ap (λ n. n % 2) (shr-shr word k j)

from_on : (word from i : ℕ) → from ≤ i → bit_at word i ≡ bit_at (word / 2 ^ from) (i - from)
from_on word from i le = let place : i ≡ from + (i - from) = omega (arith, le) in ap (λ k. bit_at word k) place ∙ sym (behind word from (i - from))

pub no_bit : (word from : ℕ) → word / 2 ^ from ≡ 0 → (i : ℕ) → from ≤ i → bit_at word i ≡ 0
no_bit word from none i le = from_on word from i le ∙ ap (λ n. bit_at n (i - from)) none ∙ bit_at-zero (i - from)

pub low_bit : (word from : ℕ) → word < 2 ^ 64 → 0 < word / 2 ^ from → IsLowestBit word from (from + trailing_zeros w64 (word / 2 ^ from))
low_bit word from fits some =
    let rest : ℕ = word / 2 ^ from in
    let n : ℕ = trailing_zeros w64 rest in
    let low = bit_at-trailing_zeros w64 rest some (omega (arith, fits, shr_le word from)) in
    let here : bit_at word (from + n) ≡ 1 = sym (behind word from n) ∙ low.1 in
    record {
      low = omega arith;
      few = elim (cases_lt (from + n) 64) [ inl less ↦ less | inr past ↦ absurd (no_zero _ (bit_at_above word 64 (from + n) fits past) here) ];
      set = here;
      none = λ i le less. from_on word from i le ∙ low.2 (i - from) (omega (arith, le, less));
    }

-- ---- the first from one on

-- none is in a word that has no bit
pub quiet_word : (words : List ℕ) (t : ℕ) → get_or words (t / 64) 0 ≡ 0 → has_turn words t ≡ false
quiet_word words t none = ap (λ (w : ℕ). bit_at w (t % 64) == 1) none ∙ ap (λ (b : ℕ). b == 1) (bit_at-zero (t % 64))

pub past_all : (words : List ℕ) (t : ℕ) → length words ≡ 32 → 2048 ≤ t → has_turn words t ≡ false
past_all words t len past = quiet_word words t (get_or_past words (t / 64) 0 (omega (arith, len, past)))

-- nor in the rest of a word
quiet_rest : (words : List ℕ) (turn t : ℕ) → ((i : ℕ) → turn % 64 ≤ i → bit_at (get_or words (turn / 64) 0) i ≡ 0) → turn ≤ t → t / 64 ≡ turn / 64 → has_turn words t ≡ false
quiet_rest words turn t none le same = ap (λ (b : ℕ). b == 1) (ap (λ s. bit_at (get_or words s 0) (t % 64)) same ∙ none (t % 64) (omega (arith, le, same)))

-- nor in one behind it without a turn
quiet_behind : (full : ℕ) (words : List ℕ) (t : ℕ) → length words ≡ 32 → IsTied full words → bit_at full (t / 64) ≡ 0 → has_turn words t ≡ false
quiet_behind full words t len h e = elim (cases_lt (t / 64) 32) [
  | inl within ↦ quiet_word words t (h.empty (t / 64) within e)
  | inr past ↦ past_all words t len (omega (arith, past))
]

-- there is none
pub none_behind : (full : ℕ) (words : List ℕ) (turn : ℕ) → length words ≡ 32 → IsTied full words → ((i : ℕ) → turn % 64 ≤ i → bit_at (get_or words (turn / 64) 0) i ≡ 0) →
    ((w : ℕ) → turn / 64 + 1 ≤ w → bit_at full w ≡ 0) → (t : ℕ) → turn ≤ t → has_turn words t ≡ false
none_behind full words turn len h rest none t le = elim (cases_eq (t / 64) (turn / 64)) [
  | inl same ↦ quiet_rest words turn t rest le same
  | inr other ↦ quiet_behind full words t len h (none (t / 64) (omega (arith, other, le)))
]

pub next_within : (full next : ℕ) → full < 2 ^ 32 → bit_at full next ≡ 1 → next < 32
next_within full next fits set = elim (cases_lt next 32) [ inl less ↦ less | inr past ↦ absurd (no_zero _ (bit_at_above full 32 next fits past) set) ]

pub some_bit : (full : ℕ) (words : List ℕ) (next : ℕ) → IsTied full words → next < 32 → bit_at full next ≡ 1 → ((i : ℕ) → 0 ≤ i → bit_at (get_or words next 0) i ≡ 0) → get_or words next 0 < 2 ^ 64 → ⊥
some_bit full words next h within set none fits =
    let low = bit_at-trailing_zeros w64 (get_or words next 0) (h.used next within set) fits in
    no_zero _ (none (trailing_zeros w64 (get_or words next 0)) (omega arith)) low.1

-- it is in a word behind
pub behind_word : (full : ℕ) (words : List ℕ) (turn next bit : ℕ) → length words ≡ 32 → IsTied full words → ((i : ℕ) → turn % 64 ≤ i → bit_at (get_or words (turn / 64) 0) i ≡ 0) →
    IsLowestBit full (turn / 64 + 1) next → IsLowestBit (get_or words next 0) 0 bit → IsFirst words turn (next * 64 + bit)
behind_word full words turn next bit len h rest ahead first =
    let few : bit < 64 = first.few in
    let above : turn / 64 + 1 ≤ next = ahead.low in
    let quotient : (next * 64 + bit) / 64 ≡ next = omega (arith, few) in
    let remainder : (next * 64 + bit) % 64 ≡ bit = omega (arith, few) in
    record {
      low = omega (arith, above);
      there = ap (λ (b : ℕ). b == 1) (ap (λ s. bit_at (get_or words s 0) ((next * 64 + bit) % 64)) quotient ∙ ap (λ i. bit_at (get_or words next 0) i) remainder ∙ first.set);
      none = λ t le less. elim (cases_eq (t / 64) (turn / 64)) [
        | inl same ↦ quiet_rest words turn t rest le same
        | inr other ↦ elim (cases_eq (t / 64) next) [
          | inl last ↦ ap (λ (b : ℕ). b == 1) (ap (λ s. bit_at (get_or words s 0) (t % 64)) last ∙ first.none (t % 64) (omega arith) (omega (arith, last, less)))
          | inr before ↦ quiet_behind full words t len h (ahead.none (t / 64) (omega (arith, other, le)) (omega (arith, before, less, few)))
        ]
      ];
    }
