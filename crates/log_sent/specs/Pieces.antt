-- Datagrams, each in the context that it was sealed for.
use Rattle.std.specs.Prelude.{ℕ, List, [], ◌∷◌, ◌++◌, ◌≡◌, Bool, true, cond, ◌&&◌, refl}
use Rattle.std.specs.Coded.{Coded, code_by, coded×, coded_ℕ, coded_list}
use Rattle.std.specs.List.{list_any}
use Rattle.std.specs.Str.{bytes_eq}
use Rattle.std.specs.Hash as fed
use Rattle.std.specs.Hash.{HashWrites}
use Rattle.crypto_profile.specs.declared.keys.Context.{Context}
use Rattle.crypto_profile.specs.declared.keys.Context.TheVariants.{Startup, Session}
use Rattle.crypto_profile.specs.Keys.{same_context}

-- a datagram, and what it was sealed for
pub record Sealed : Type 0 where
  pub datagram : List ℕ
  pub context : Context

abbrev pub is_same_sealed : Sealed → Sealed → Bool
is_same_sealed a b = bytes_eq a.datagram b.datagram && same_context a.context b.context

abbrev pub has_sealed : List Sealed → Sealed → Bool
has_sealed all q = list_any (is_same_sealed q) all

-- ---- as a key of a set: all that tells one from another is hashed

abbrev pub context_input : Context → HashWrites
context_input (Startup generation) = fed.u64 generation
context_input (Session generation ni nr fp_i fp_r sid_i sid_r to_responder) =
    fed.u64 generation ++ ((ni ∷ []) ++ ((nr ∷ []) ++ ((fp_i ∷ []) ++ ((fp_r ∷ []) ++
    (fed.u32 sid_i ++ (fed.u32 sid_r ++ fed.bool to_responder))))))

abbrev pub sealed_input : Sealed → HashWrites
sealed_input s = (s.datagram ∷ []) ++ context_input s.context

-- ---- a set of them

-- each that is in it, and how many more there is room for
pub record SealedSet : Type 0 where
  pub each : List Sealed
  pub spare : ℕ

abbrev pub sealed_code : Coded Context → Coded (List Sealed)
sealed_code context =
    coded_list (code_by (List ℕ × Context) (coded× (coded_list coded_ℕ) context)
    (λ s. (s.datagram, s.context)) (λ p. record { datagram = p.0; context = p.1 }) (λ _. refl))

abbrev pub sealed_set_code : Coded Context → Coded SealedSet
sealed_set_code context =
    code_by (List Sealed × ℕ) (coded× (sealed_code context) coded_ℕ) (λ s. (s.each, s.spare))
    (λ p. record { each = p.0; spare = p.1 }) (λ _. refl)

-- They are those before and this one.
pub record HasOneMore (s : Sealed) (old new : List Sealed) : Type 0 where
  pub has : (q : Sealed) → has_sealed new q ≡ cond (is_same_sealed s q) true (has_sealed old q)

-- They are those before.
pub record AreTheSame (old new : List Sealed) : Type 0 where
  pub has : (q : Sealed) → has_sealed new q ≡ has_sealed old q
