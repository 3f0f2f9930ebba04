-- What the words of `meet` and of `serve` say (own).
use Rattle.std.specs.Prelude.{◌≡◌, ◌≢◌, ℕ, ◌≤◌, nat_lt, Bool, true, List, [], ◌∷◌, ◌++◌, map, length, codes, decimal, Option, Some, None, String, string_bytes}
use Rattle.std.specs.Option.{option_map}
use Rattle.std.specs.List.{list_all}
use Rattle.std.specs.declared.alloc.Global.{Global}
use Rattle.hex.specs.Hex.{encode_lower}
use Rattle.rtmfp_forms.specs.Address.{AddressParts}
use Rattle.identity.specs.ServiceNames.{IsServiceName}
use Rattle.rtmfp_text.specs.AddressText.{address_text}
use Rattle.rtmfp_text.specs.Words.{bytes_text}
use Rattle.rtmfp_script.specs.Grammar.{IsName, IsPlainAddress}
use Rattle.rtmfp_words.specs.Items.{Scanned, Scans, empty}
use Rattle.rtmfp_words.specs.declared.opening_words.OpeningWords.{OpeningWords}
use Rattle.rtmfp_words.specs.declared.opening_words.Whom.{Whom}
use Rattle.rtmfp_words.specs.declared.opening_words.Whom.TheVariants.{Print, Name}

-- the command, and behind it items that have these plain words and options
pub record Commands (command : List ℕ) (words : List (String Global)) (s : Scanned) : Type 0 where
  pub parts : List (List ℕ)
  pub begins : map string_bytes words ≡ command ∷ parts
  pub scans : Scans parts s

pub record AreTurns (turns : ℕ) : Type 0 where
  pub some : 1 ≤ turns
  pub most : turns ≤ 1000000

-- ---- `meet --port P --turns N`

-- three ports that follow each other are ports
pub record IsPort (port : ℕ) : Type 0 where
  pub some : 1 ≤ port
  pub most : port ≤ 65533

abbrev pub meet_options : ℕ → ℕ → Scanned
meet_options port turns = record empty {
  turns = Some (decimal turns);
  port = Some (decimal port);
}

pub record IsMeet (words : List (String Global)) (port turns : ℕ) : Type 0 where
  pub said : Commands (codes "meet") words (meet_options port turns)
  pub port_fits : IsPort port
  pub turns_fit : AreTurns turns

-- ---- `serve BIND GROUP NAME OPENING .. --turns N`, and where wanted `--instance DIGITS`,
-- `--introduce`, `--send HEX`, `--next DIGITS` with `--advance T` or without, and `--journal LABEL`

-- what `serve` is told
pub record Serving : Type 0 where
  pub bind : AddressParts
  pub group : List ℕ
  pub name : List ℕ
  pub openings : List OpeningWords
  pub turns : ℕ
  pub instance : Option (List ℕ)
  pub introduce : Bool
  pub send : Option (List ℕ)
  -- the group's secret in the next generation, where it is learnt
  pub next : Option (List ℕ)
  -- the turn in which the end goes over to that
  pub advance : Option ℕ
  -- what a journal calls the end, where one is written in place of the report
  pub journal : Option (List ℕ)

-- an end is named by the digits of its fingerprint, and a service by `n:` and those of its name
abbrev pub whom_text : Whom → List ℕ
whom_text (Print print) = encode_lower print
whom_text (Name name) = codes "n:" ++ bytes_text name

-- an opening is whom it calls, `@`, and an address
abbrev pub opening_text : OpeningWords → List ℕ
opening_text opening = whom_text opening.whom ++ 64 ∷ address_text opening.at

abbrev pub serve_items : Serving → Scanned
serve_items v = record {
  plain = address_text v.bind ∷ encode_lower v.group ∷ v.name ∷ map opening_text v.openings;
  turns = Some (decimal v.turns);
  port = None;
  instance = option_map encode_lower v.instance;
  send = option_map encode_lower v.send;
  next = option_map encode_lower v.next;
  advance = option_map decimal v.advance;
  journal = v.journal;
  introduce = v.introduce;
}

-- so many bytes
pub record AreBytes (count : ℕ) (bytes : List ℕ) : Type 0 where
  pub many : length bytes ≡ count
  pub each : list_all (λ b. nat_lt b 256) bytes ≡ true

pub record IsNodeName (name : List ℕ) : Type 0 where
  pub some : 1 ≤ length name
  pub most : length name ≤ 64
  pub ascii : list_all (λ b. nat_lt b 128) name ≡ true

abbrev pub IsWhom : Whom → Type 0
IsWhom (Print print) = AreBytes 32 print
IsWhom (Name name) = IsServiceName name

pub record IsOpening (opening : OpeningWords) : Type 0 where
  pub whom : IsWhom opening.whom
  pub at : IsPlainAddress opening.at

abbrev pub EachIsOpening : List OpeningWords → Type 0
EachIsOpening [] = Unit {0}
EachIsOpening (opening ∷ openings) = IsOpening opening × EachIsOpening openings

abbrev pub IsInstance : Option (List ℕ) → Type 0
IsInstance None = Unit {0}
IsInstance (Some bytes) = AreBytes 16 bytes

pub record IsMessage (bytes : List ℕ) : Type 0 where
  pub some : 1 ≤ length bytes
  pub most : length bytes ≤ 1000
  pub each : list_all (λ b. nat_lt b 256) bytes ≡ true

abbrev pub IsSent : Option (List ℕ) → Type 0
IsSent None = Unit {0}
IsSent (Some bytes) = IsMessage bytes

-- another secret than that of the group
abbrev pub IsNext : List ℕ → Option (List ℕ) → Type 0
IsNext group None = Unit {0}
IsNext group (Some next) = AreBytes 32 next × (next ≢ group)

-- one of so many turns, where there is a next secret
abbrev pub IsTurnToAdvance : Option (List ℕ) → ℕ → Option ℕ → Type 0
IsTurnToAdvance next turns None = Unit {0}
IsTurnToAdvance None turns (Some turn) = ⊥
IsTurnToAdvance (Some next) turns (Some turn) = (1 ≤ turn) × (turn ≤ turns)

abbrev pub IsLabel : Option (List ℕ) → Type 0
IsLabel None = Unit {0}
IsLabel (Some label) = IsName label

pub record IsServe (words : List (String Global)) (v : Serving) : Type 0 where
  pub said : Commands (codes "serve") words (serve_items v)
  pub bind : IsPlainAddress v.bind
  pub group : AreBytes 32 v.group
  pub name : IsNodeName v.name
  pub openings : EachIsOpening v.openings
  pub turns : AreTurns v.turns
  pub instance : IsInstance v.instance
  pub send : IsSent v.send
  pub next : IsNext v.group v.next
  pub advance : IsTurnToAdvance v.next v.turns v.advance
  pub journal : IsLabel v.journal
