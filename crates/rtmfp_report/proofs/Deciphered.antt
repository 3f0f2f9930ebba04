-- Parts that are too short to be deciphered.
use Rattle.std.proofs.Common.{◌≡◌, ℕ, ◌<◌, ◌≤◌, List, [], length, drop, refl, ap, ◌∙◌, arith, length-drop}
use Rattle.std.proofs.lemmas.List.{drop_all, nil_from_length}
use Rattle.crypto_profile.specs.Keys.{Keys}
use Rattle.crypto_profile.specs.Opening.{plain_of}
use Rattle.crypto_profile.specs.Sealing.{ciphered, number_of}
use Rattle.crypto_profile.proofs.Opened.{length-ciphered}
use Rattle.endpoint_model.specs.Admission.{packet_in}
use Rattle.endpoint.specs.Kinds.{kinds_in}

-- a part without ciphertext has no plain packet
pub no_plain : (keys : Keys) (part : List ℕ) → length part ≤ 32 → plain_of keys part ≡ []
no_plain keys part short =
    ap (ciphered keys.enc (number_of part)) (drop_all 32 part short) ∙ nil_from_length (ciphered keys.enc (number_of part) []) (length-ciphered keys.enc (number_of part) [])

-- nothing is no packet
no_packet : kinds_in [] ≡ []
unfolding packet_in
no_packet = refl

pub no_kinds : (keys : Keys) (datagram : List ℕ) → length datagram < 36 → kinds_in (plain_of keys (drop 4 datagram)) ≡ []
no_kinds keys datagram short = ap kinds_in (no_plain keys (drop 4 datagram) (omega (arith, length-drop 4 datagram))) ∙ no_packet
