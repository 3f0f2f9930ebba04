-- Addresses that are spelled one after another.
use Rattle.std.proofs.Common.{◌≡◌, ℕ, List, [], ◌∷◌, ◌++◌, refl, sym, ap, ◌∙◌, append_assoc, append-nil}
use Rattle.std.specs.List.{fold}
use Rattle.rtmfp_forms.specs.Address.{AddressParts, AddressSpells, address_bytes}
use Rattle.rtmfp_chunks.specs.Fields.{AddressesSpell, AreAddresses}
use Rattle.startup_packets.specs.Packets.{addresses_bytes}

spelled_end : (addresses : List AddressParts) (b : List ℕ) (a : AddressParts) (front : List ℕ) → AddressesSpell addresses b → AddressSpells a front → AddressesSpell (addresses ++ a ∷ []) (b ++ front)
spelled_end [] b a front is one = (front, [], ap (λ (x : List ℕ). x ++ front) is ∙ sym (append-nil front), one, refl)
spelled_end (x ∷ addresses) b a front is one =
    (is.0, is.1 ++ front, ap (λ (y : List ℕ). y ++ front) is.2 ∙ append_assoc is.0 is.1 front, is.3, spelled_end addresses is.1 a front is.4 one)

-- one more address
pub are_more : (b : List ℕ) (a : AddressParts) (front : List ℕ) → AreAddresses b → AddressSpells a front → AreAddresses (b ++ front)
are_more b a front are one = (are.0 ++ a ∷ [], spelled_end are.0 b a front are.1 one)

put_last : (done : List AddressParts) (a : AddressParts) (bytes : List ℕ) →
    fold (λ all address. all ++ address_bytes address) bytes (done ++ a ∷ []) ≡ fold (λ all address. all ++ address_bytes address) bytes done ++ address_bytes a
put_last [] a bytes = refl
put_last (x ∷ done) a bytes = put_last done a (bytes ++ address_bytes x)

pub bytes_more : (done : List AddressParts) (a : AddressParts) → addresses_bytes (done ++ a ∷ []) ≡ addresses_bytes done ++ address_bytes a
bytes_more done a = put_last done a []
