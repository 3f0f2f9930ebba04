-- Lists of addresses.
use Rattle.std.proofs.Common.{◌≡◌, ℕ, zero, suc, ◌≤◌, List, [], ◌∷◌, ◌++◌, length, map, Option, Some, None, refl, sym, ap, ◌∙◌, subst, arith, append_assoc}
use Rattle.rtmfp_forms.specs.Address.{AddressParts}
use Rattle.rtmfp_text.specs.AddressText.{address_text}
use Rattle.rtmfp_script.specs.Grammar.{EachIsPlainAddress, words_text}
use Rattle.rtmfp_script.specs.Fields.{split_of, address_of, addresses_from, addresses_of, either, ◌>>=◌}
use Rattle.rtmfp_script.proofs.Splits.{some_some, bind_some, split_text, split_nothing, split_joined}
use Rattle.rtmfp_script.proofs.NamesRead.{rejoin}
use Rattle.rtmfp_script.proofs.Addresses.{address_of-some, address_of-text, lacks_address}

-- what was read of a list: addresses behind those that were there
record IsListed (room : ℕ) (done : List AddressParts) (text : List ℕ) (addresses : List AddressParts) : Type 0 where
  first : AddressParts
  more : List AddressParts
  joined : addresses ≡ done ++ first ∷ more
  is_text : text ≡ words_text (map address_text (first ∷ more))
  good : EachIsPlainAddress (first ∷ more)
  few : length (first ∷ more) ≤ room

listed_one : (room : ℕ) (done : List AddressParts) (text : List ℕ) (addresses : List AddressParts) → (address_of text >>= λ address. Some (done ++ address ∷ [])) ≡ Some addresses → IsListed (suc room) done text addresses
listed_one room done text addresses h =
    let p = bind_some (address_of text) (λ address. Some (done ++ address ∷ [])) addresses h in
    let is = address_of-some text p.0 p.1 in
    record { first = p.0; more = []; joined = sym (some_some _ _ p.2); is_text = is.0; good = (is.1, tt); few = omega arith }

listed_more : (room : ℕ) (done : List AddressParts) (text : List ℕ) (addresses : List AddressParts) (parts : List ℕ × List ℕ) (address : AddressParts) →
    split_of 32 text ≡ Some parts → address_of parts.0 ≡ Some address → IsListed room (done ++ address ∷ []) parts.1 addresses → IsListed (suc room) done text addresses
listed_more room done text addresses parts address cut is rest =
    let one = address_of-some parts.0 address is in
    record {
      first = address;
      more = rest.first ∷ rest.more;
      joined = rest.joined ∙ append_assoc done (address ∷ []) (rest.first ∷ rest.more);
      is_text = rejoin 32 text parts.0 parts.1 _ _ (split_joined 32 text parts cut) one.0 rest.is_text;
      good = (one.1, rest.good);
      few = (let e = rest.few in omega arith);
    }

listed_by : (room : ℕ) (done : List AddressParts) (text : List ℕ) (addresses : List AddressParts) (o : Option (List ℕ × List ℕ)) → split_of 32 text ≡ o →
    ((done : List AddressParts) (text : List ℕ) → addresses_from room done text ≡ Some addresses → IsListed room done text addresses) →
    either (address_of text >>= λ address. Some (done ++ address ∷ [])) (λ parts. address_of parts.0 >>= λ address. addresses_from room (done ++ address ∷ []) parts.1) o ≡ Some addresses → IsListed (suc room) done text addresses
listed_by room done text addresses None cut ih h = listed_one room done text addresses h
listed_by room done text addresses (Some parts) cut ih h =
    let p = bind_some (address_of parts.0) (λ address. addresses_from room (done ++ address ∷ []) parts.1) addresses h in
    listed_more room done text addresses parts p.0 cut p.1 (ih (done ++ p.0 ∷ []) parts.1 p.2)

listed : (room : ℕ) (done : List AddressParts) (text : List ℕ) (addresses : List AddressParts) → addresses_from room done text ≡ Some addresses → IsListed room done text addresses
unfolding addresses_from
listed zero done text addresses h = absurd (cc)
listed (suc room) done text addresses h = listed_by room done text addresses (split_of 32 text) refl (λ d t e. listed room d t addresses e) h

pub record AreAddresses (text : List ℕ) (addresses : List AddressParts) : Type 0 where
  pub text_is : (front : List ℕ) → words_text (front ∷ map address_text addresses) ≡ front ++ 32 ∷ text
  pub good : EachIsPlainAddress addresses
  pub few : length addresses ≤ 32

pub addresses_of-some : (text : List ℕ) (addresses : List AddressParts) → addresses_of text ≡ Some addresses → AreAddresses text addresses
unfolding addresses_of
addresses_of-some text addresses h =
    let is = listed 32 [] text addresses h in
    subst (AreAddresses text) (sym is.joined) (record {
      text_is = λ front. ap (λ xs. front ++ 32 ∷ xs) (sym is.is_text);
      good = is.good;
      few = is.few;
    })

-- ---- the text of a list is read

pub addresses_from-text : (room : ℕ) (done : List AddressParts) (first : AddressParts) (more : List AddressParts) → length (first ∷ more) ≤ room → EachIsPlainAddress (first ∷ more) →
    addresses_from room done (words_text (map address_text (first ∷ more))) ≡ Some (done ++ first ∷ more)
unfolding addresses_from
addresses_from-text zero done first more few good = absurd (omega arith)
addresses_from-text (suc room) done first [] few good =
    rw (split_nothing 32 (address_text first) (lacks_address first good.0), address_of-text first good.0) refl
addresses_from-text (suc room) done first (next ∷ more) few good =
    rw (split_text 32 (address_text first) (words_text (map address_text (next ∷ more))) (lacks_address first good.0), address_of-text first good.0)
    (addresses_from-text room (done ++ first ∷ []) next more (omega arith) good.1 ∙ ap Some (append_assoc done (first ∷ []) (next ∷ more)))

pub addresses_of-text : (first : AddressParts) (more : List AddressParts) → length (first ∷ more) ≤ 32 → EachIsPlainAddress (first ∷ more) → addresses_of (words_text (map address_text (first ∷ more))) ≡ Some (first ∷ more)
unfolding addresses_of
addresses_of-text first more few good = addresses_from-text 32 [] first more few good
