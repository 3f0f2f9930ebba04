-- Two datagrams in contexts are compared exactly.
use Rattle.std.proofs.Common.{◌≡◌, subst, Bool, true, false, ◌&&◌, refl}
use Rattle.std.specs.Bool.{Decides}
use Rattle.std.specs.Cmp.{IsEquivalence, decided}
use Rattle.std.specs.Str.{bytes_eq}
use Rattle.std.proofs.lemmas.Slice.Eq.{bytes_eq-Decides}
use Rattle.crypto_profile.specs.Keys.{same_context}
use Rattle.crypto_profile.proofs.Contexts.{same_context_is, same_itself}
use Rattle.log_sent.specs.Pieces.{Sealed, is_same_sealed}

both_hold : (a b : Bool) → (a && b) ≡ true → (a ≡ true) × (b ≡ true)
both_hold true true e = (refl, refl)
both_hold true false e = absurd cc
both_hold false b e = absurd cc

hold_both : (a b : Bool) → a ≡ true → b ≡ true → (a && b) ≡ true
hold_both a b p q = cc

are_same : (a b : Sealed) → is_same_sealed a b ≡ true → a ≡ b
are_same a b e =
    let both = both_hold (bytes_eq a.datagram b.datagram) (same_context a.context b.context) e in
    let bytes = (bytes_eq-Decides a.datagram b.datagram).0 both.0 in
    let contexts = same_context_is a.context b.context both.1 in
    (λ i. record { datagram = bytes i; context = contexts i })

is_itself : (a : Sealed) → is_same_sealed a a ≡ true
is_itself a =
    hold_both (bytes_eq a.datagram a.datagram) (same_context a.context a.context)
    ((bytes_eq-Decides a.datagram a.datagram).1 refl) (same_itself a.context)

pub same_decides : (a b : Sealed) → Decides (is_same_sealed a b) (a ≡ b)
same_decides a b =
    (are_same a b, λ e. subst (λ (s : Sealed). is_same_sealed a s ≡ true) e (is_itself a))

pub same_equivalence : IsEquivalence is_same_sealed
same_equivalence = decided is_same_sealed same_decides
