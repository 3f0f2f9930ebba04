-- A cookie reads back as what it was made of, and a test's answer is right.
use Rattle.std.proofs.Common.{◌≡◌, ℕ, ◌+◌, ◌*◌, ◌<◌, ◌^◌, Bool, true, false, if◌then◌else◌, nat_lt, List, length, take, drop, get_or, Option, Some, None, Result, Ok, Err, refl, sym, ap, ◌∙◌, subst, inl, inr, arith}
use Rattle.std.specs.Str.{bytes_eq}
use Rattle.std.proofs.lemmas.Bool.{cases_lt, ltb-true, ltb-false}
use Rattle.std.proofs.lemmas.List.{drop_all, get_or-drop, get_or-take, get_or_past, length-take}
use Rattle.std.proofs.lemmas.Nat.{from_be_bytes-to_be_bytes_8}
use Rattle.std.proofs.lemmas.Slice.Eq.{bytes_eq-Decides}
use Rattle.rtmfp_forms.specs.declared.fault.FormFault.{FormFault}
use Rattle.rtmfp_forms.specs.Address.{AddressParts, IsAddress, address_bytes, is_same_place}
use Rattle.rtmfp_forms.specs.AddressReading.{address_at}
use Rattle.rtmfp_forms.proofs.Addresses.{address_again, address_bytes-spell, address_takes}
use Rattle.rtmfp_forms.proofs.Places.{place_same, same_place}
use Rattle.crypto_profile.specs.Hmac.{hmac}
use Rattle.cookies.specs.declared.CookieTest.TheVariants.{Moved, Expired, Current}
use Rattle.cookies.specs.Cookie.{AreBytes, observed, cookie_body, cookie_of, IsCookieOf, IsAnswer, moment_of, cookie_found, cookie_read, test_of, TellsOnePlaceAndMoment, TestIsRight}
use Rattle.cookies.proofs.Making.{observed-IsAddress}

-- ---- a cookie reads back

pub moment_back : (secret : List ℕ) (a : AddressParts) (m : ℕ) → m < 2 ^ 64 → moment_of (cookie_of secret a m) ≡ m
moment_back secret a m h = from_be_bytes-to_be_bytes_8 m h

pub address_back : (secret : List ℕ) (a : AddressParts) (m : ℕ) → IsAddress a
    → address_at (drop 8 (cookie_of secret a m)) ≡ Ok (observed a, length (address_bytes (observed a)))
address_back secret a m is =
    address_again (observed a) (address_bytes (observed a)) (take 16 (hmac secret (cookie_body a m)))
    (address_bytes-spell (observed a) (observed-IsAddress a is))

same_is_true : (xs ys : List ℕ) → xs ≡ ys → bytes_eq xs ys ≡ true
same_is_true xs ys e = (bytes_eq-Decides xs ys).1 e

pub cookie_back : (secret : List ℕ) (a : AddressParts) (m : ℕ) (bytes : List ℕ) → IsCookieOf secret a m bytes → cookie_read secret bytes ≡ Some (observed a, m)
unfolding cookie_read
cookie_back secret a m bytes is =
    let address : address_at (drop 8 bytes) ≡ Ok (observed a, length (address_bytes (observed a))) =
    ap (λ bs. address_at (drop 8 bs)) is.bytes_are ∙ address_back secret a m is.is_address in
    let moment : moment_of bytes ≡ m = ap moment_of is.bytes_are ∙ moment_back secret a m is.moment_fits in
    let same : bytes_eq (cookie_of secret (observed a) (moment_of bytes)) bytes ≡ true =
    same_is_true (cookie_of secret (observed a) (moment_of bytes)) bytes (ap (cookie_of secret (observed a)) moment ∙ sym is.bytes_are) in
    ap (cookie_found secret bytes) address
    ∙ ap (λ b. if b then Some (observed a, moment_of bytes) else None) same
    ∙ ap (λ n. Some (observed a, n)) moment

-- ---- two cookies of the same bytes

some_pair : (a b : AddressParts) (m n : ℕ) → ◌≡◌ {A = Option (AddressParts × ℕ)} (Some (a, m)) (Some (b, n)) → (a ≡ b) × (m ≡ n)
some_pair a b m n e =
    let pair : ◌≡◌ {A = AddressParts × ℕ} (a, m) (b, n) = cc in
    (ap (λ (p : AddressParts × ℕ). p.0) pair, ap (λ (p : AddressParts × ℕ). p.1) pair)

pub one_place_and_moment : TellsOnePlaceAndMoment
one_place_and_moment secret bytes a b m n p q =
    let both = some_pair (observed a) (observed b) m n (sym (cookie_back secret a m bytes p) ∙ cookie_back secret b n bytes q) in
    (record { family = ap (λ (x : AddressParts). x.v6) both.0; host = ap (λ (x : AddressParts). x.host) both.0; port = ap (λ (x : AddressParts). x.port) both.0 }, both.1)

-- ---- what is read is a cookie

-- each byte is below 256, and past the end stands 0
abbrev Below : List ℕ → Type 0
Below bytes = (i : ℕ) → get_or bytes i 0 < 256

below-drop : (n : ℕ) (bytes : List ℕ) → Below bytes → Below (drop n bytes)
below-drop n bytes fits i = rw get_or-drop (fits (n + i))

below-take : (n : ℕ) (bytes : List ℕ) → Below bytes → Below (take n bytes)
below-take n bytes fits i =
    elim (cases_lt i n) [
      | inl within ↦ rw (get_or-take n bytes i 0 within) (fits i)
      | inr past ↦ rw (get_or_past (take n bytes) i 0 (omega (arith, length-take n bytes))) (omega arith)
    ]

bytes_below : (bytes : List ℕ) → AreBytes bytes → Below bytes
bytes_below bytes all i =
    elim (cases_lt i (length bytes)) [
      | inl within ↦ all i 0 within
      | inr past ↦ omega (arith, get_or_past bytes i 0 past)
    ]

number_fits : (a b c d e f g h : ℕ) → a < 256 → b < 256 → c < 256 → d < 256 → e < 256 → f < 256 → g < 256 → h < 256
    → a * 72057594037927936 + b * 281474976710656 + c * 1099511627776 + d * 4294967296 + e * 16777216 + f * 65536 + g * 256 + h < 2 ^ 64
number_fits a b c d e f g h p q r s t u v w = omega arith

moment_fits : (bytes : List ℕ) → Below bytes → moment_of bytes < 2 ^ 64
moment_fits bytes fits =
    let first : Below (take 8 bytes) = below-take 8 bytes fits in
    number_fits _ _ _ _ _ _ _ _ (first 0) (first 1) (first 2) (first 3) (first 4) (first 5) (first 6) (first 7)

-- a test of bytes that decides what is found
found_by : (b : Bool) (x y : AddressParts × ℕ) → ◌≡◌ {A = Option (AddressParts × ℕ)} (if b then Some x else None) (Some y) → (b ≡ true) × (x ≡ y)
found_by true x y e = (refl, cc)
found_by false x y e = absurd cc

found_is : (secret bytes : List ℕ) (r : Result (AddressParts × ℕ) FormFault) (a : AddressParts) (m : ℕ) → Below bytes → r ≡ address_at (drop 8 bytes)
    → cookie_found secret bytes r ≡ Some (a, m) → IsCookieOf secret a m bytes
found_is secret bytes (Err fault) a m fits e some = absurd cc
found_is secret bytes (Ok found) a m fits e some =
    let by = found_by (bytes_eq (cookie_of secret found.0 (moment_of bytes)) bytes) (found.0, moment_of bytes) (a, m) some in
    let is_a : found.0 ≡ a = ap (λ (p : AddressParts × ℕ). p.0) by.1 in
    let is_m : moment_of bytes ≡ m = ap (λ (p : AddressParts × ℕ). p.1) by.1 in
    let spells = address_takes (drop 8 bytes) (Ok found) (below-drop 8 bytes fits) e in
    record {
      is_address = subst (λ (x : AddressParts). IsAddress x) is_a spells.1.is_address;
      moment_fits = subst (λ (n : ℕ). n < 2 ^ 64) is_m (moment_fits bytes fits);
      bytes_are =
          sym ((bytes_eq-Decides (cookie_of secret found.0 (moment_of bytes)) bytes).0 by.0)
          ∙ ap (λ (x : AddressParts). cookie_of secret x (moment_of bytes)) is_a ∙ ap (cookie_of secret a) is_m;
    }

pub read_is : (secret bytes : List ℕ) (a : AddressParts) (m : ℕ) → Below bytes → cookie_read secret bytes ≡ Some (a, m) → IsCookieOf secret a m bytes
unfolding cookie_read
read_is secret bytes a m fits some = found_is secret bytes (address_at (drop 8 bytes)) a m fits refl some

-- ---- answers

good_is_right : (secret bytes : List ℕ) (a : AddressParts) (m : ℕ) (from : AddressParts) (now : ℕ) (place late : Bool) → IsCookieOf secret a m bytes
    → is_same_place a from ≡ place → nat_lt (m + 95000) now ≡ late
    → IsAnswer secret bytes from now (if place then (if late then Expired else Current) else Moved)
good_is_right secret bytes a m from now true true is there past = (a, m, is, place_same a from there, ltb-true (m + 95000) now past)
good_is_right secret bytes a m from now true false is there past = (a, m, is, place_same a from there, ltb-false (m + 95000) now past)
good_is_right secret bytes a m from now false late is there past =
    (a, m, is, (λ same. let clash : true ≡ false = sym (same_place a from same) ∙ there in absurd cc))

right_by : (secret bytes : List ℕ) (from : AddressParts) (now : ℕ) (found : Option (AddressParts × ℕ)) → Below bytes → cookie_read secret bytes ≡ found
    → IsAnswer secret bytes from now (test_of found from now)
right_by secret bytes from now None fits none =
    λ a m is. let clash : ◌≡◌ {A = Option (AddressParts × ℕ)} (Some (observed a, m)) None = sym (cookie_back secret a m bytes is) ∙ none in absurd cc
right_by secret bytes from now (Some found) fits some =
    good_is_right secret bytes found.0 found.1 from now (is_same_place found.0 from) (nat_lt (found.1 + 95000) now)
    (read_is secret bytes found.0 found.1 fits some) refl refl

pub test_is_right : TestIsRight
test_is_right secret bytes from now all = right_by secret bytes from now (cookie_read secret bytes) (bytes_below bytes all) refl

-- the same of bytes behind a reference
pub right_answer : (secret bytes : List ℕ) (from : AddressParts) (now : ℕ) (found : Option (AddressParts × ℕ)) → Below bytes → found ≡ cookie_read secret bytes
    → IsAnswer secret bytes from now (test_of found from now)
right_answer secret bytes from now found fits e = right_by secret bytes from now found fits (sym e)

-- ---- what the code reads

-- fewer than 8 bytes have no address after the moment
pub none_short : (secret bytes : List ℕ) → length bytes < 8 → cookie_read secret bytes ≡ None
unfolding cookie_read address_at
none_short secret bytes short = ap (λ rest. cookie_found secret bytes (address_at rest)) (drop_all 8 bytes (omega arith))

pub read_by : (secret bytes : List ℕ) → cookie_found secret bytes (address_at (drop 8 bytes)) ≡ cookie_read secret bytes
unfolding cookie_read
read_by secret bytes = refl
