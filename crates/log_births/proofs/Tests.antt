-- What single tests tell.
use Rattle.std.proofs.Common.{ℕ, ◌+◌, ◌≤◌, ◌<◌, ◌≡◌, ◌-◌, true, false, List, ◌++◌, length, take, refl, sym, ap, ◌∙◌, arith, length-append}
use Rattle.std.proofs.lemmas.List.{take_at}
use Rattle.std.proofs.lemmas.Slice.Eq.{bytes_eq-Decides}
use Rattle.crypto_profile.specs.Hmac.{hmac}
use Rattle.crypto_profile.specs.Keys.{sign_key_of}
use Rattle.rtmfp_forms.specs.Address.{AddressParts, SamePlace}
use Rattle.startup_packets.specs.Packets.{before_signature, is_signed_by}
use Rattle.cookies.specs.Cookie.{IsAnswer}
use Rattle.cookies.specs.declared.CookieTest.{CookieTest}
use Rattle.cookies.specs.declared.CookieTest.TheVariants.{Bad, Moved, Expired, Current}
use Rattle.cookies.proofs.Reading.{one_place_and_moment}
use Rattle.endpoint_model.specs.Keying.{IsSigned}
use Rattle.log_packets.specs.Asked.{Tells}
use Rattle.log_facts.proofs.Answering.{not_so}
use Rattle.log_births.specs.Offers.{IsCurrent}

-- ---- signatures

front_is : (payload before sign : List ℕ) → payload ≡ before ++ sign → before_signature payload sign ≡ before
front_is payload before sign whole =
    ap (λ n. take n payload) (let count : length payload - length sign ≡ length before = omega (arith, ap length whole, length-append before sign) in count)
    ∙ ap (take (length before)) whole ∙ take_at before sign (length before) refl

pub is_signed_then : (secret payload sign : List ℕ) → IsSigned secret payload sign → is_signed_by (sign_key_of secret) payload sign ≡ true
unfolding is_signed_by
is_signed_then secret payload sign s =
    (bytes_eq-Decides (hmac (sign_key_of secret) (before_signature payload sign)) sign).1
    (ap (hmac (sign_key_of secret)) (front_is payload s.before sign s.whole) ∙ sym s.signature)

-- ---- cookies

same_by : (a b from : AddressParts) → SamePlace a b → SamePlace b from → SamePlace a from
same_by a b from p q = record { family = p.family ∙ q.family; host = p.host ∙ q.host; port = p.port ∙ q.port }

-- A cookie that is current is nothing else.
pub current_only : (secret bytes : List ℕ) (from : AddressParts) (now : ℕ) (found : CookieTest) → IsAnswer secret bytes from now found → IsAnswer secret bytes from now Current → found ≡ Current
current_only secret bytes from now Bad is c = absurd (is c.0 c.1 c.2)
current_only secret bytes from now Moved is c =
    let one = one_place_and_moment secret bytes is.0 c.0 is.1 c.1 is.2 c.2 in
    absurd (is.3 (same_by is.0 c.0 from one.0 c.3))
current_only secret bytes from now Expired is c =
    let one = one_place_and_moment secret bytes is.0 c.0 is.1 c.1 is.2 c.2 in
    let moments : is.1 ≡ c.1 = one.1 in
    let late : is.1 + 95000 < now = is.4 in
    let early : now ≤ c.1 + 95000 = c.4 in
    absurd (omega arith)
current_only secret bytes from now Current is c = refl

module _ (secret bytes : List ℕ) (from : AddressParts) (now : ℕ) where
  pub no_current : (found : CookieTest) → IsAnswer secret bytes from now found → (found ≡ Current → ⊥) → Tells (IsCurrent secret bytes from now) false
  no_current found is other = not_so _ (λ c. other (current_only secret bytes from now found is c.current))
