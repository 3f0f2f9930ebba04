-- The lines of a script: the text of what a line says, and the limits (own).
use Rattle.std.specs.Prelude.{◌≡◌, ℕ, zero, suc, ◌^◌, ◌%◌, ◌<◌, ◌≤◌, ◌&&◌, ◌||◌, nat_lt, nat_le, Bool, true, List, [], ◌∷◌, ◌++◌, map, length, codes, decimal, Option, Some, None}
use Rattle.std.specs.List.{list_all}
use Rattle.rtmfp_forms.specs.Address.{AddressParts, IsAddress}
use Rattle.rtmfp_text.specs.AddressText.{address_text, v4_host_text}
use Rattle.rtmfp_text.specs.Words.{bytes_text, number_text}
use Rattle.identity.specs.ServiceNames.{IsServiceName}
use Rattle.translators.specs.declared.rule.Rule.{Rule}
use Rattle.translators.specs.declared.rule.Rule.TheVariants.{Independent, Dependent}
use Rattle.rtmfp_script.specs.declared.line.ScriptLine.{ScriptLine}
use Rattle.rtmfp_script.specs.declared.line.ScriptLine.TheVariants.{End, At, Call, Towards, Bring, Translator, Place, Carry}
use Rattle.rtmfp_script.specs.declared.line.CallLine.TheVariants.{Introduce, Narrow, Seek, Cancel, Unseek, Close, Flow, Queue, Abandon, Finish, Learn, Advance, Tick}
use Rattle.rtmfp_script.specs.declared.line.AimLine.TheVariants.{Redirect, Open}
use Rattle.rtmfp_script.specs.declared.line.BringLine.TheVariants.{Deliver, Bent, Inject, Forge}
use Rattle.rtmfp_script.specs.declared.content.Content.{Content}
use Rattle.rtmfp_script.specs.declared.content.Content.TheVariants.{Given, Counting}

-- words, with one space between each two
abbrev pub words_text : List (List ℕ) → List ℕ
words_text [] = []
words_text (word ∷ []) = word
words_text (word ∷ next ∷ words) = word ++ 32 ∷ words_text (next ∷ words)

-- ---- the bytes of a message

-- so many bytes, of which byte i is i modulo 251
unfoldable pub counting : ℕ → List ℕ
counting zero = []
counting (suc count) = counting count ++ (count % 251) ∷ []

abbrev pub content_bytes : Content → List ℕ
content_bytes (Given bytes) = bytes
content_bytes (Counting count) = counting count

-- bytes stand in digits; of bytes that count, a star and how many there are
abbrev pub content_text : Content → List ℕ
content_text (Given bytes) = bytes_text bytes
content_text (Counting count) = codes "*" ++ decimal count

-- ---- the lines

-- a word that is there where a number is
abbrev pub word_for : Option ℕ → List (List ℕ)
word_for None = []
word_for (Some number) = decimal number ∷ []

-- a name that is there where a translator is
abbrev pub name_for : Option (List ℕ) → List (List ℕ)
name_for None = []
name_for (Some name) = name ∷ []

abbrev pub rule_text : Rule → List ℕ
rule_text Independent = codes "independent"
rule_text Dependent = codes "dependent"

-- the text of what a line says
abbrev pub line_text : ScriptLine → List ℕ
line_text (End name peers sessions cert) = words_text
    (codes "end" ∷ name ∷ decimal peers ∷ decimal sessions ∷ cert ∷ [])
line_text (Call name Introduce) = words_text (codes "introduce" ∷ name ∷ [])
line_text (Call name (Narrow limit)) = words_text (codes "narrow" ∷ name ∷ decimal limit ∷ [])
line_text (Towards name peer addresses Redirect) = words_text
    (codes "redirect" ∷ name ∷ peer ∷ map address_text addresses)
line_text (At moment) = words_text (codes "at" ∷ decimal moment ∷ [])
line_text (Towards name peer candidates Open) = words_text
    (codes "open" ∷ name ∷ peer ∷ map address_text candidates)
line_text (Call name (Seek service addresses)) = words_text
    (codes "seek" ∷ name ∷ bytes_text service ∷ map address_text addresses)
line_text (Call name (Cancel number)) = words_text (codes "cancel" ∷ name ∷ decimal number ∷ [])
line_text (Call name (Unseek near)) = words_text (codes "unseek" ∷ name ∷ decimal near ∷ [])
line_text (Call name (Close near)) = words_text (codes "close" ∷ name ∷ decimal near ∷ [])
line_text (Call name (Flow near priority metadata answers)) = words_text
    (codes "flow" ∷ name ∷ decimal near ∷ decimal priority ∷ bytes_text metadata ∷ word_for answers)
line_text (Call name (Queue near flow deadline resends content)) = words_text
    (codes "queue" ∷ name ∷ decimal near ∷ decimal flow ∷ number_text deadline ∷
    number_text resends ∷ content_text content ∷ [])
line_text (Call name (Abandon near flow seq)) = words_text
    (codes "abandon" ∷ name ∷ decimal near ∷ decimal flow ∷ decimal seq ∷ [])
line_text (Call name (Finish near flow)) = words_text
    (codes "finish" ∷ name ∷ decimal near ∷ decimal flow ∷ [])
line_text (Call name Learn) = words_text (codes "learn" ∷ name ∷ [])
line_text (Call name Advance) = words_text (codes "advance" ∷ name ∷ [])
line_text (Call name Tick) = words_text (codes "tick" ∷ name ∷ [])
line_text (Bring name from (Deliver number)) = words_text
    (codes "deliver" ∷ decimal number ∷ name ∷ address_text from ∷ [])
line_text (Bring name from (Bent number place)) = words_text
    (codes "bent" ∷ decimal number ∷ decimal place ∷ name ∷ address_text from ∷ [])
line_text (Bring name from (Inject bytes)) = words_text
    (codes "inject" ∷ name ∷ address_text from ∷ bytes_text bytes ∷ [])
line_text (Bring name from (Forge bytes)) = words_text
    (codes "forge" ∷ name ∷ address_text from ∷ bytes_text bytes ∷ [])
line_text (Translator name mapping filter host first) = words_text
    (codes "translator" ∷ name ∷ rule_text mapping ∷ rule_text filter ∷ v4_host_text host ∷
    decimal first ∷ [])
line_text (Place name at behind) = words_text
    (codes "place" ∷ name ∷ address_text at ∷ name_for behind)
line_text (Carry number) = words_text (codes "carry" ∷ decimal number ∷ [])

-- `a` to `z` and `0` to `9`
abbrev pub is_name_byte : ℕ → Bool
is_name_byte b = (nat_le 97 b && nat_le b 122) || (nat_le 48 b && nat_le b 57)

pub record IsName (name : List ℕ) : Type 0 where
  pub some : 1 ≤ length name
  pub short : length name ≤ 16
  pub plain : list_all is_name_byte name ≡ true

-- the rest of a line that is a certificate; spaces are allowed in it
pub record IsCert (cert : List ℕ) : Type 0 where
  pub least : 17 ≤ length cert
  pub most : length cert ≤ 80
  pub ascii : list_all (λ b. nat_lt b 0x80) cert ≡ true

-- an address of a script has origin 0
pub record IsPlainAddress (address : AddressParts) : Type 0 where
  pub form : IsAddress address
  pub origin : address.origin ≡ 0
  pub each : list_all (λ b. nat_lt b 256) address.host ≡ true

abbrev pub EachIsPlainAddress : List AddressParts → Type 0
EachIsPlainAddress [] = Unit {0}
EachIsPlainAddress (address ∷ addresses) = IsPlainAddress address × EachIsPlainAddress addresses

-- four numbers, which are the bytes of an IPv4 host
pub record IsHost (host : List ℕ) : Type 0 where
  pub size : length host ≡ 4
  pub each : list_all (λ b. nat_lt b 256) host ≡ true

-- at most so many bytes
pub record IsBytesUpTo (most : ℕ) (bytes : List ℕ) : Type 0 where
  pub fits : length bytes ≤ most
  pub each : list_all (λ b. nat_lt b 256) bytes ≡ true

abbrev pub AreBytes : List ℕ → Type 0
AreBytes bytes = list_all (λ b. nat_lt b 256) bytes ≡ true

-- of bytes that count there are 2,000,000 at most; others are as many as a line holds
abbrev pub IsContent : Content → Type 0
IsContent (Given bytes) = AreBytes bytes
IsContent (Counting count) = count ≤ 2000000

-- a number, where there is one, is below this
abbrev pub IsBelow : ℕ → Option ℕ → Type 0
IsBelow limit None = Unit {0}
IsBelow limit (Some number) = number < limit

-- a name, where there is one
abbrev pub IsNameOrNone : Option (List ℕ) → Type 0
IsNameOrNone None = Unit {0}
IsNameOrNone (Some name) = IsName name

-- what a line may say
abbrev pub IsWithin : ScriptLine → Type 0
IsWithin (End name peers sessions cert) = IsName name × (peers < 2 ^ 32) × (sessions < 2 ^ 32) ×
    IsCert cert
IsWithin (Call name Introduce) = IsName name
IsWithin (Call name (Narrow limit)) = IsName name × (limit < 2 ^ 16)
IsWithin (Towards name peer addresses Redirect) = IsName name × IsName peer × (1 ≤ length addresses) ×
    (length addresses ≤ 16) × EachIsPlainAddress addresses
IsWithin (At moment) = moment < 2 ^ 64
IsWithin (Towards name peer candidates Open) = IsName name × IsName peer × (length candidates ≤ 32) ×
    EachIsPlainAddress candidates
IsWithin (Call name (Seek service addresses)) = IsName name × IsServiceName service ×
    (length addresses ≤ 32) × EachIsPlainAddress addresses
IsWithin (Call name (Cancel number)) = IsName name × (number < 2 ^ 64)
IsWithin (Call name (Unseek near)) = IsName name × (near < 2 ^ 32)
IsWithin (Call name (Close near)) = IsName name × (near < 2 ^ 32)
IsWithin (Call name (Flow near priority metadata answers)) = IsName name × (near < 2 ^ 32) ×
    (priority < 256) × AreBytes metadata × IsBelow (2 ^ 64) answers
IsWithin (Call name (Queue near flow deadline resends content)) = IsName name × (near < 2 ^ 32) ×
    (flow < 2 ^ 64) × IsBelow (2 ^ 64) deadline × IsBelow (2 ^ 32) resends × IsContent content
IsWithin (Call name (Abandon near flow seq)) = IsName name × (near < 2 ^ 32) × (flow < 2 ^ 64) ×
    (seq < 2 ^ 64)
IsWithin (Call name (Finish near flow)) = IsName name × (near < 2 ^ 32) × (flow < 2 ^ 64)
IsWithin (Call name Learn) = IsName name
IsWithin (Call name Advance) = IsName name
IsWithin (Call name Tick) = IsName name
IsWithin (Bring name from (Deliver number)) = (number < 2 ^ 64) × IsName name × IsPlainAddress from
IsWithin (Bring name from (Bent number place)) = (number < 2 ^ 64) × (place < 2 ^ 64) × IsName name ×
    IsPlainAddress from
IsWithin (Bring name from (Inject bytes)) = IsName name × IsPlainAddress from × IsBytesUpTo 2048 bytes
IsWithin (Bring name from (Forge bytes)) = IsName name × IsPlainAddress from × IsBytesUpTo 1164 bytes
IsWithin (Translator name mapping filter host first) = IsName name × IsHost host ×
    (first < 2 ^ 16)
IsWithin (Place name at behind) = IsName name × IsPlainAddress at × IsNameOrNone behind
IsWithin (Carry number) = number < 2 ^ 64

-- the bytes stand in digits
abbrev pub IsGiven : Content → Type 0
IsGiven (Given bytes) = Unit {0}
IsGiven (Counting count) = ⊥

-- what is read of the line takes memory
abbrev pub TakesMemory : ScriptLine → Type 0
TakesMemory (Bring name from (Inject bytes)) = Unit {0}
TakesMemory (Bring name from (Forge bytes)) = Unit {0}
TakesMemory (Call name (Flow near priority metadata answers)) = Unit {0}
TakesMemory (Call name (Queue near flow deadline resends content)) = IsGiven content
TakesMemory other = ⊥

-- the longest line, without its LF
abbrev pub line_limit : ℕ
line_limit = 2097664

-- the line says this
pub record IsLineOf (line : List ℕ) (said : ScriptLine) : Type 0 where
  pub text : line ≡ line_text said
  pub within : IsWithin said
  pub fits : length line ≤ line_limit

-- the line is empty or a comment, which begins with `#`
abbrev pub IsSkipped : List ℕ → Type 0
IsSkipped [] = Unit {0}
IsSkipped (b ∷ bytes) = b ≡ 35
