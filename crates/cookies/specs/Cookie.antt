-- An address cookie: the moment of its issue, the address that it was made for, and a tag of both
-- under a secret of its maker.
use Rattle.std.specs.Prelude.{◌≡◌, ℕ, ◌+◌, ◌<◌, ◌≤◌, ◌^◌, if◌then◌else◌, nat_lt, List, ◌++◌, take, drop, Option, Some, None, Result, Ok, Err, All}
use Rattle.std.specs.Int.{w64, to_be_bytes, from_be_bytes}
use Rattle.std.specs.Str.{bytes_eq}
use Rattle.rtmfp_forms.specs.declared.fault.FormFault.{FormFault}
use Rattle.rtmfp_forms.specs.Address.{AddressParts, IsAddress, SamePlace, address_bytes, is_same_place}
use Rattle.rtmfp_forms.specs.AddressReading.{address_at}
use Rattle.crypto_profile.specs.Hmac.{hmac}
use Rattle.cookies.specs.declared.CookieTest.{CookieTest}
use Rattle.cookies.specs.declared.CookieTest.TheVariants.{Bad, Moved, Expired, Current}

-- each number is a byte
abbrev pub AreBytes : List ℕ → Type 0
AreBytes bytes = All (λ byte. byte < 2 ^ 8) bytes

-- an address as a cookie has it: as an end observed it, whose origin is 2
abbrev pub observed : AddressParts → AddressParts
observed address = record address { origin = 2 }

-- what the tag is of
abbrev pub cookie_body : AddressParts → ℕ → List ℕ
cookie_body address moment = to_be_bytes w64 moment ++ address_bytes (observed address)

-- the cookie for an address that is issued at a moment
abbrev pub cookie_of : List ℕ → AddressParts → ℕ → List ℕ
cookie_of secret address moment = cookie_body address moment
    ++ take 16 (hmac secret (cookie_body address moment))

-- the bytes are the cookie for this address that is issued at this moment
pub record IsCookieOf (secret : List ℕ) (address : AddressParts) (moment : ℕ) (bytes : List ℕ)
    : Type 0 where
  pub is_address : IsAddress address
  pub moment_fits : moment < 2 ^ 64
  pub bytes_are : bytes ≡ cookie_of secret address moment

-- ---- what a test answers of bytes, from an address and at a moment

-- a relation: which answer is right
abbrev pub IsAnswer : List ℕ → List ℕ → AddressParts → ℕ → CookieTest → Type 0
IsAnswer secret bytes from now Bad = (address : AddressParts) (moment : ℕ) →
    IsCookieOf secret address moment bytes → ⊥
IsAnswer secret bytes from now Moved =
    (address : AddressParts) × (moment : ℕ) × IsCookieOf secret address moment bytes ×
    (SamePlace address from → ⊥)
IsAnswer secret bytes from now Expired =
    (address : AddressParts) × (moment : ℕ) × IsCookieOf secret address moment bytes ×
    SamePlace address from × (moment + 95000 < now)
IsAnswer secret bytes from now Current =
    (address : AddressParts) × (moment : ℕ) × IsCookieOf secret address moment bytes ×
    SamePlace address from × (now ≤ moment + 95000)

-- the same as a function

-- of a cookie for an address that was issued at a moment
abbrev pub good_cookie_test : AddressParts → ℕ → AddressParts → ℕ → CookieTest
good_cookie_test address moment from now =
    if is_same_place address from then (if nat_lt (moment + 95000) now then Expired else Current)
    else Moved

-- the moment that bytes begin with
abbrev pub moment_of : List ℕ → ℕ
moment_of bytes = from_be_bytes w64 (take 8 bytes)

-- where an address follows the moment, and the bytes are the cookie for both: these
abbrev pub cookie_found : List ℕ → List ℕ → Result (AddressParts × ℕ) FormFault →
    Option (AddressParts × ℕ)
cookie_found secret bytes (Err fault) = None
cookie_found secret bytes (Ok found) =
    if bytes_eq (cookie_of secret found.0 (moment_of bytes)) bytes then
    Some (found.0, moment_of bytes) else None

unfoldable pub cookie_read : List ℕ → List ℕ → Option (AddressParts × ℕ)
cookie_read secret bytes = cookie_found secret bytes (address_at (drop 8 bytes))

abbrev pub test_of : Option (AddressParts × ℕ) → AddressParts → ℕ → CookieTest
test_of None from now = Bad
test_of (Some found) from now = good_cookie_test found.0 found.1 from now

abbrev pub cookie_test : List ℕ → List ℕ → AddressParts → ℕ → CookieTest
cookie_test secret bytes from now = test_of (cookie_read secret bytes) from now

-- ---- laws

-- a cookie tells one place and one moment
abbrev pub TellsOnePlaceAndMoment : Type 0
TellsOnePlaceAndMoment = (secret bytes : List ℕ) (a b : AddressParts) (m n : ℕ) →
    IsCookieOf secret a m bytes → IsCookieOf secret b n bytes
    → SamePlace a b × (m ≡ n)

-- the function's answer is right, whatever the bytes are
abbrev pub TestIsRight : Type 0
TestIsRight = (secret bytes : List ℕ) (from : AddressParts) (now : ℕ) → AreBytes bytes
    → IsAnswer secret bytes from now (cookie_test secret bytes from now)
