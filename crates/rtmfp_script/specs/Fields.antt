-- How the fields of a line are read, as functions.
use Rattle.std.specs.Prelude.{ℕ, zero, suc, ◌+◌, ◌-◌, ◌*◌, ◌%◌, ◌^◌, ◌==◌, ◌&&◌, ◌||◌, nat_lt, nat_le, Bool, true, false, if◌then◌else◌, List, [], ◌∷◌, ◌++◌, length, codes, drop, slice_index, replicate, Option, Some, None, Result, Ok, Err}
use Rattle.std.specs.List.{list_all}
use Rattle.std.specs.Char.{is_ascii_digit}
use Rattle.std.specs.Str.{bytes_eq}
use Rattle.hex.specs.Hex.{decode_pairs}
use Rattle.hex.specs.declared.error.FromHexError.{FromHexError}
use Rattle.rtmfp_forms.specs.Address.{AddressParts}
use Rattle.identity.specs.ServiceNames.{service_name_of}
use Rattle.translators.specs.declared.rule.Rule.{Rule}
use Rattle.translators.specs.declared.rule.Rule.TheVariants.{Independent, Dependent}
use Rattle.rtmfp_script.specs.Grammar.{is_name_byte, IsGiven}
use Rattle.rtmfp_script.specs.declared.content.Content.{Content}
use Rattle.rtmfp_script.specs.declared.content.Content.TheVariants.{Given, Counting}

-- the second step, if the first gave a value
infixl 10 ◌>>=◌
abbrev pub ◌>>=◌ : {A B : Type 0} → Option A → (A → Option B) → Option B
None >>= f = None
Some x >>= f = f x

-- one value where there is none, and one made of what there is
abbrev pub either : {A B : Type 0} → B → (A → B) → Option A → B
either none some None = none
either none some (Some x) = some x

-- the value, if the test passes
abbrev pub only_if : {A : Type 0} → Bool → A → Option A
only_if test x = if test then Some x else None

-- a byte more in front of what stands in front
abbrev pub behind : ℕ → Option (List ℕ × List ℕ) → Option (List ℕ × List ℕ)
behind x None = None
behind x (Some parts) = Some (x ∷ parts.0, parts.1)

-- what stands in front of the first byte b, and what stands behind it
unfoldable pub split_of : ℕ → List ℕ → Option (List ℕ × List ℕ)
split_of b [] = None
split_of b (x ∷ xs) = if x == b then Some ([], xs) else behind x (split_of b xs)

-- ---- names and certificates

abbrev pub is_name : List ℕ → Bool
is_name word = nat_le 1 (length word) && (nat_le (length word) 16 && list_all is_name_byte word)

unfoldable pub name_of : List ℕ → Option (List ℕ)
name_of word = only_if (is_name word) word

abbrev pub is_cert : List ℕ → Bool
is_cert rest =
    nat_le 17 (length rest) && (nat_le (length rest) 80 && list_all (λ b. nat_lt b 0x80) rest)

unfoldable pub cert_of : List ℕ → Option (List ℕ)
cert_of rest = only_if (is_cert rest) rest

-- ---- rules of translators

unfoldable pub rule_of : List ℕ → Option Rule
rule_of word =
    if bytes_eq word (codes "independent") then Some Independent
    else if bytes_eq word (codes "dependent") then Some Dependent
    else None

-- ---- numbers

-- a number with one digit more behind it, if that is a number of 64 bits
unfoldable pub with_digit : ℕ → ℕ → Option ℕ
with_digit n digit = only_if (is_ascii_digit digit && nat_lt (n * 10 + (digit - 48)) (2 ^ 64))
    (n * 10 + (digit - 48))

-- the same with all these digits
unfoldable pub number_from : ℕ → List ℕ → Option ℕ
number_from n [] = Some n
number_from n (digit ∷ digits) = with_digit n digit >>= λ m. number_from m digits

-- no digit, or a zero in front of others
abbrev pub is_unwritten : List ℕ → Bool
is_unwritten [] = true
is_unwritten (digit ∷ []) = false
is_unwritten (digit ∷ next ∷ digits) = digit == 48

-- the number of 64 bits whose decimal text this is
unfoldable pub number_of : List ℕ → Option ℕ
number_of word = if is_unwritten word then None else number_from 0 word

-- the same of a smaller number
unfoldable pub number_below : ℕ → List ℕ → Option ℕ
number_below limit word = number_of word >>= λ n. only_if (nat_lt n limit) n

-- ---- bytes

-- a hexadecimal digit that isn't upper-case
abbrev pub is_lower_digit : ℕ → Bool
is_lower_digit b = (nat_le 48 b && nat_le b 57) || (nat_le 97 b && nat_le b 102)

abbrev pub value_of : {A : Type 0} → Result A FromHexError → Option A
value_of (Ok x) = Some x
value_of (Err e) = None

-- the bytes of an even number of digits
unfoldable pub digits_of : List ℕ → Option (List ℕ)
digits_of word = if length word % 2 == 0 && list_all is_lower_digit word then
    value_of (decode_pairs 0 word) else None

abbrev pub is_hyphen : List ℕ → Bool
is_hyphen [] = false
is_hyphen (b ∷ []) = b == 45
is_hyphen (b ∷ c ∷ bytes) = false

-- at most so many bytes, with a hyphen for none
unfoldable pub bytes_of : ℕ → List ℕ → Option (List ℕ)
bytes_of most word =
    if is_hyphen word then Some []
    else if nat_le 1 (length word) && nat_le (length word) (2 * most) then digits_of word
    else None

-- any number of bytes, with a hyphen for none
unfoldable pub hexadecimal_of : List ℕ → Option (List ℕ)
hexadecimal_of word =
    if is_hyphen word then Some []
    else if nat_le 1 (length word) then digits_of word
    else None

-- the name of a service, in digits
unfoldable pub service_of : List ℕ → Option (List ℕ)
service_of word = digits_of word >>= λ name. service_name_of name

-- ---- limits

-- a number that is read so, with a hyphen for none
unfoldable pub limit_by : (List ℕ → Option ℕ) → List ℕ → Option (Option ℕ)
limit_by read word =
    if is_hyphen word then Some None else (read word >>= λ number. Some (Some number))

-- ---- the bytes of a message

unfoldable pub counting_of : List ℕ → Option Content
counting_of digits = number_below (2 ^ 32) digits >>= λ count. only_if (nat_le count 2000000)
    (Counting count)

-- a star in front says that the bytes count
unfoldable pub content_of : List ℕ → Option Content
content_of word =
    if slice_index word 0 == 42 then counting_of (drop 1 word)
    else (hexadecimal_of word >>= λ bytes. Some (Given bytes))

-- there are bytes, in digits
abbrev pub IsSomeGiven : Option Content → Type 0
IsSomeGiven None = ⊥
IsSomeGiven (Some content) = IsGiven content

-- ---- addresses

-- four numbers with points between them
unfoldable pub v4_of : List ℕ → Option (List ℕ)
v4_of host =
    split_of 46 host >>= λ a.
    split_of 46 a.1 >>= λ b.
    split_of 46 b.1 >>= λ c.
    number_below 256 a.0 >>= λ first.
    number_below 256 b.0 >>= λ second.
    number_below 256 c.0 >>= λ third.
    number_below 256 c.1 >>= λ fourth.
    Some (first ∷ second ∷ third ∷ fourth ∷ [])

-- 32 digits, and a bracket behind them
unfoldable pub v6_of : List ℕ → Option (List ℕ)
v6_of rest = split_of 93 rest >>= λ parts. (if length parts.1 == 0 && length parts.0 == 32 then
    digits_of parts.0 else None)

abbrev pub v4_address : ℕ → List ℕ → AddressParts
v4_address port host = record { v6 = false; origin = 0; host = host ++ replicate 12 0; port = port }

abbrev pub v6_address : ℕ → List ℕ → AddressParts
v6_address port host = record { v6 = true; origin = 0; host = host; port = port }

-- a bracket in front says IPv6
unfoldable pub address_at : List ℕ → ℕ → Option AddressParts
address_at host port =
    if slice_index host 0 == 91 then (v6_of (drop 1 host) >>= λ bytes. Some (v6_address port bytes))
    else (v4_of host >>= λ bytes. Some (v4_address port bytes))

unfoldable pub address_of : List ℕ → Option AddressParts
address_of word = split_of 58 word >>= λ parts. number_below (2 ^ 16) parts.1 >>= λ port. address_at
    parts.0 port

-- at most so many addresses behind those that were read
unfoldable pub addresses_from : ℕ → List AddressParts → List ℕ → Option (List AddressParts)
addresses_from zero done rest = None
addresses_from (suc room) done rest = either
    (address_of rest >>= λ address. Some (done ++ address ∷ []))
    (λ parts. address_of parts.0 >>= λ address. addresses_from room (done ++ address ∷ []) parts.1)
    (split_of 32 rest)

unfoldable pub addresses_of : List ℕ → Option (List AddressParts)
addresses_of rest = addresses_from 32 [] rest
