-- What a cookie's buffer holds.
use Rattle.std.proofs.Common.{◌≡◌, ℕ, ◌+◌, ◌-◌, ◌≤◌, List, ◌++◌, length, take, sym, ap, ◌∙◌, arith, length-append}
use Rattle.std.specs.Prelude.{replicate}
use Rattle.std.specs.Int.{w64, to_be_bytes}
use Rattle.std.proofs.lemmas.List.{take_at, length-take}
use Rattle.std.proofs.lemmas.Slice.{take-put_mid}
use borrow.Rule.Slice.PartMut.{put_mid}
use Rattle.rtmfp_forms.specs.Address.{AddressParts, IsAddress, address_bytes}
use Rattle.rtmfp_forms.proofs.Addresses.{length-address_bytes, host_len_fits}
use Rattle.crypto_profile.specs.Hmac.{hmac}
use Rattle.crypto_profile.proofs.Streams.{length-hmac}
use Rattle.cookies.specs.Cookie.{observed, cookie_body, cookie_of}

-- an address that was observed is one
pub observed-IsAddress : (a : AddressParts) → IsAddress a → IsAddress (observed a)
observed-IsAddress a h = record { origin = omega arith; host = h.host; filled = h.filled; port = h.port }

-- a front and a part after it, in a buffer
front_and_part : (front zeros part : List ℕ) (k : ℕ) → length front ≡ 8 → length part ≡ k
    → take (8 + k) (put_mid 8 (8 + k - 8) (front ++ zeros) part) ≡ front ++ part
front_and_part front zeros part k p q =
    take-put_mid 8 (8 + k - 8) (front ++ zeros) part (8 + k) (omega arith) (omega (arith, length-append front zeros))
    ∙ ap (λ xs. xs ++ part) (take_at front zeros 8 p)

-- the buffer of a cookie: `out` begins with the address, and `mac` is of the moment and the address
pub made : (secret : List ℕ) (a : AddressParts) (moment k : ℕ) (out rest first address mac tag : List ℕ) → IsAddress (observed a)
    → out ≡ address_bytes (observed a) ++ rest → k ≡ length (address_bytes (observed a))
    → first ≡ to_be_bytes w64 moment → address ≡ take k out
    → mac ≡ hmac secret (take (8 + k) (put_mid 8 (8 + k - 8) (first ++ replicate 35 0) address))
    → tag ≡ take 16 mac
    → take (8 + k + 16) (put_mid (8 + k) (8 + k + 16 - (8 + k)) (put_mid 8 (8 + k - 8) (first ++ replicate 35 0) address) tag)
    ≡ cookie_of secret a moment
made secret a moment k out rest first address mac tag is of_out of_k of_first of_address of_mac of_tag =
    let few : k ≤ 19 = omega (arith, length-address_bytes (observed a) is, host_len_fits a.v6) in
    let address_is : address ≡ address_bytes (observed a) = of_address ∙ ap (take k) of_out ∙ take_at (address_bytes (observed a)) rest k (sym of_k) in
    let front_len : length first ≡ 8 = ap length of_first in
    let address_len : length address ≡ k = ap length address_is ∙ sym of_k in
    let body : take (8 + k) (put_mid 8 (8 + k - 8) (first ++ replicate 35 0) address) ≡ cookie_body a moment =
    front_and_part first (replicate 35 0) address k front_len address_len
    ∙ ap (λ xs. xs ++ address) of_first ∙ ap (λ xs. to_be_bytes w64 moment ++ xs) address_is in
    let tag_is : tag ≡ take 16 (hmac secret (cookie_body a moment)) = of_tag ∙ ap (take 16) (of_mac ∙ ap (hmac secret) body) in
    let tag_len : length tag ≡ 16 = omega (arith, ap length tag_is, length-take 16 (hmac secret (cookie_body a moment)), length-hmac secret (cookie_body a moment)) in
    let long : 8 + k ≤ length (put_mid 8 (8 + k - 8) (first ++ replicate 35 0) address) =
    omega (
      arith,
      ap length (front_and_part first (replicate 35 0) address k front_len address_len),
      length-append first address,
      length-take (8 + k) (put_mid 8 (8 + k - 8) (first ++ replicate 35 0) address),
    ) in
    take-put_mid (8 + k) (8 + k + 16 - (8 + k)) (put_mid 8 (8 + k - 8) (first ++ replicate 35 0) address) tag (8 + k + 16) (omega arith) long
    ∙ ap (λ xs. xs ++ tag) body ∙ ap (λ xs. cookie_body a moment ++ xs) tag_is
