-- One address more of a list.
use Rattle.std.proofs.Common.{◌≡◌, ℕ, suc, ◌+◌, ◌-◌, ◌<◌, ◌≤◌, List, [], ◌∷◌, ◌++◌, Some, None, refl, ap, ◌∙◌, arith}
use Rattle.rtmfp_forms.specs.Address.{AddressParts}
use Rattle.rtmfp_script.specs.Fields.{split_of, address_of, addresses_from}

one_less : (at : ℕ) → at < 32 → 32 - at ≡ suc (32 - (at + 1))
one_less at lt = omega arith

pub step_some : (at : ℕ) (done : List AddressParts) (rest word behind : List ℕ) (address : AddressParts) → at < 32 → split_of 32 rest ≡ Some (word, behind) → address_of word ≡ Some address →
    addresses_from (32 - at) done rest ≡ addresses_from (32 - (at + 1)) (done ++ address ∷ []) behind
unfolding addresses_from
step_some at done rest word behind address lt cut is = ap (λ n. addresses_from n done rest) (one_less at lt) ∙ rw (cut, is) refl

pub step_bad : (at : ℕ) (done : List AddressParts) (rest word behind : List ℕ) → at < 32 → split_of 32 rest ≡ Some (word, behind) → address_of word ≡ None →
    addresses_from (32 - at) done rest ≡ None
unfolding addresses_from
step_bad at done rest word behind lt cut is = ap (λ n. addresses_from n done rest) (one_less at lt) ∙ rw (cut, is) refl

pub last_some : (at : ℕ) (done : List AddressParts) (rest : List ℕ) (address : AddressParts) → at < 32 → split_of 32 rest ≡ None → address_of rest ≡ Some address →
    addresses_from (32 - at) done rest ≡ Some (done ++ address ∷ [])
unfolding addresses_from
last_some at done rest address lt cut is = ap (λ n. addresses_from n done rest) (one_less at lt) ∙ rw (cut, is) refl

pub last_bad : (at : ℕ) (done : List AddressParts) (rest : List ℕ) → at < 32 → split_of 32 rest ≡ None → address_of rest ≡ None →
    addresses_from (32 - at) done rest ≡ None
unfolding addresses_from
last_bad at done rest lt cut is = ap (λ n. addresses_from n done rest) (one_less at lt) ∙ rw (cut, is) refl

pub no_room : (at : ℕ) (done : List AddressParts) (rest : List ℕ) → 32 ≤ at → addresses_from (32 - at) done rest ≡ None
unfolding addresses_from
no_room at done rest all = let e : 32 - at ≡ 0 = omega arith in ap (λ n. addresses_from n done rest) e
