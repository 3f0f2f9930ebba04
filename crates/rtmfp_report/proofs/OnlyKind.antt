-- The first block of a packet, deciphered alone, tells its only chunk.
use Rattle.std.proofs.Common.{◌≡◌, ℕ, ◌+◌, ◌-◌, ◌≤◌, List, [], ◌∷◌, length, take, drop, sym, ap, ◌∙◌, arith, length-drop, Option, Some, None, IfSome}
use Rattle.crypto_profile.specs.Keys.{Keys}
use Rattle.crypto_profile.specs.Opening.{plain_of}
use Rattle.crypto_profile.specs.Sealing.{number_of}
use Rattle.crypto_profile.proofs.Opened.{length-ciphered}
use Rattle.endpoint.specs.Kinds.{kinds_in}
use Rattle.rtmfp_report.specs.LoneChunk.{lone_kind}
use Rattle.rtmfp_report.proofs.Fronts.{plain_of-take}
use Rattle.rtmfp_report.proofs.Lone.{lone_kind-told}

pub only_kind-told : (keys : Keys) (part front : List ℕ) (count size : ℕ) (found : Option ℕ) → 32 ≤ count → size ≡ length part - 32 →
    front ≡ plain_of keys (take count part) → found ≡ lone_kind size front → IfSome found (λ kind. kinds_in (plain_of keys part) ≡ kind ∷ [])
only_kind-told keys part front count size None enough size_is front_is e = tt
only_kind-told keys part front count size (Some kind) enough size_is front_is e =
    let plain = plain_of keys part in
    let whole : size ≡ length plain = omega (arith, size_is, length-ciphered keys.enc (number_of part) (drop 32 part), length-drop 32 part) in
    let split : count ≡ 32 + (count - 32) = omega arith in
    let known : front ≡ take (count - 32) plain = front_is ∙ ap (λ n. plain_of keys (take n part)) split ∙ plain_of-take keys part (count - 32) in
    lone_kind-told (count - 32) kind plain
    (ap (λ n. lone_kind n (take (count - 32) plain)) (sym whole) ∙ ap (lone_kind size) (sym known) ∙ sym e)
