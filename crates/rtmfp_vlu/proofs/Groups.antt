-- One turn of the decoder's loop: the next group of seven bits.
use Rattle.std.proofs.Common.{◌≡◌, ℕ, ◌+◌, ◌*◌, ◌%◌, ◌^◌, ◌<◌, ◌≤◌, ◌⊎◌, List, length, take, get_or, ap, subst, ◌∙◌, inl, inr, arith}
use Rattle.std.proofs.lemmas.List.{length-take, take_more}
use Rattle.std.proofs.lemmas.Bool.{cases_lt}
use Rattle.std.proofs.lemmas.Nat.{and_mask}
use Rattle.std.specs.Prelude.{bit_and}
use Rattle.rtmfp_vlu.specs.Vlu.{value, AllContinued, IsEnded, VluSpells, IsLarge}
use Rattle.rtmfp_vlu.proofs.Values.{value-push, value-at_most}
use Rattle.rtmfp_vlu.proofs.Spellings.{AllContinued-push, IsEnded-push}

-- what the loop knows of the bytes up to i, and of the next one
pub record Sums (b : List ℕ) (i v : ℕ) : Type 0 where
  pub within : i < length b
  pub is_value : value (take i b) ≡ v
  pub continued : AllContinued (take i b)
  pub is_byte : get_or b i 0 < 256

next_value : (b : List ℕ) (i v : ℕ) → Sums b i v → value (take (i + 1) b) ≡ v * 128 + get_or b i 0 % 128
next_value b i v s = rw (take_more b i 0 s.within) (value-push (take i b) (get_or b i 0) ∙ ap (λ (n : ℕ). n * 128 + get_or b i 0 % 128) s.is_value)

pub goes_on : (b : List ℕ) (i v : ℕ) → Sums b i v → 128 ≤ get_or b i 0 → AllContinued (take (i + 1) b)
goes_on b i v s ge = rw (take_more b i 0 s.within) (AllContinued-push (take i b) (get_or b i 0) s.continued (ge, s.is_byte))

ends : (b : List ℕ) (i v : ℕ) → Sums b i v → get_or b i 0 < 128 → IsEnded (take (i + 1) b)
ends b i v s lt = rw (take_more b i 0 s.within) (IsEnded-push (take i b) (get_or b i 0) s.continued lt)

-- fewer than ten bytes, or ten whose value still fits
abbrev pub HasRoom : ℕ → ℕ → Type 0
HasRoom i v = (i ≤ 8) ⊎ (v < 2 ^ 57)

room : (b : List ℕ) (i v : ℕ) → Sums b i v → HasRoom i v → v < 2 ^ 57
room b i v s (inl few) = omega (arith, s.is_value, value-at_most (take i b) 8 (omega (arith, length-take i b, few)))
room b i v s (inr fits) = fits

-- what the code computes
pub adds_group : (b : List ℕ) (i v low : ℕ) → Sums b i v → HasRoom i v → low ≡ bit_and (get_or b i 0) 127 → value (take (i + 1) b) ≡ v * 128 % 2 ^ 64 + low
adds_group b i v low s h e =
    omega (arith, next_value b i v s, e, and_mask (get_or b i 0) 7, room b i v s h)

pub ends_at : (b : List ℕ) (i v low : ℕ) → i ≤ 9 → Sums b i v → HasRoom i v → low ≡ bit_and (get_or b i 0) 127 → get_or b i 0 < 128
    → (i + 1 ≤ length b) × VluSpells (v * 128 % 2 ^ 64 + low) (take (i + 1) b)
ends_at b i v low few s h e lt = (
  omega (arith, s.within),
  record {
    size = omega (arith, length-take (i + 1) b);
    ended = ends b i v s lt;
    sum = adds_group b i v low s h e;
    fits = omega (arith, e, and_mask (get_or b i 0) 7, room b i v s h);
  },
)

-- the tenth byte is one too many, or has a bit too many
pub tenth_is_large : (b : List ℕ) (i v : ℕ) → i ≡ 9 → Sums b i v → (128 ≤ get_or b i 0) ⊎ (2 ^ 57 ≤ v) → IsLarge b
tenth_is_large b i v nine s (inl ge) =
    inl (omega (arith, s.within), subst (λ (n : ℕ). AllContinued (take n b)) (ap (λ (n : ℕ). n + 1) nine) (goes_on b i v s ge))
tenth_is_large b i v nine s (inr over) =
    elim (cases_lt (get_or b i 0) 128) [
      | inl lt ↦ inr (i + 1, (omega (arith, s.within), omega arith, ends b i v s lt), omega (arith, next_value b i v s))
      | inr ge ↦ inl (omega (arith, s.within), subst (λ (n : ℕ). AllContinued (take n b)) (ap (λ (n : ℕ). n + 1) nine) (goes_on b i v s ge))
    ]
