-- How the words of `meet` and `serve` are read, as functions.
use Rattle.std.specs.Prelude.{ℕ, ◌==◌, ◌&&◌, nat_le, nat_lt, Bool, not, if◌then◌else◌, List, [], ◌∷◌, ◌++◌, length, codes, Option, Some, None, is_none}
use Rattle.std.specs.Str.{bytes_eq}
use Rattle.std.specs.List.{list_all}
use Rattle.rtmfp_script.specs.Fields.{◌>>=◌, either, only_if, name_of, number_of, digits_of, service_of, split_of, address_of}
use Rattle.rtmfp_words.specs.Reading.{head_of, is_empty, behind_of}
use Rattle.rtmfp_words.specs.Items.{Scanned}
use Rattle.rtmfp_words.specs.ItemReading.{scan_of}
use Rattle.rtmfp_forms.specs.Address.{AddressParts}
use Rattle.rtmfp_words.specs.Node.{Serving}
use Rattle.rtmfp_words.specs.declared.meet_words.MeetWords.{MeetWords}
use Rattle.rtmfp_words.specs.declared.opening_words.OpeningWords.{OpeningWords}
use Rattle.rtmfp_words.specs.declared.opening_words.Whom.{Whom}
use Rattle.rtmfp_words.specs.declared.opening_words.Whom.TheVariants.{Print, Name}

-- the items behind this command
unfoldable pub scan_behind : List ℕ → List (List ℕ) → Option Scanned
scan_behind command parts = head_of parts >>= λ p. if bytes_eq p.0 command then scan_of p.1
    else None

-- a number within limits
unfoldable pub number_within : ℕ → ℕ → List ℕ → Option ℕ
number_within least most word = number_of word >>= λ n. only_if (nat_le least n && nat_le n most) n

-- the value of an option that is needed
abbrev pub value_within : ℕ → ℕ → Option (List ℕ) → Option ℕ
value_within least most value = value >>= number_within least most

abbrev pub turns_of : Scanned → Option ℕ
turns_of s = value_within 1 1000000 s.turns

abbrev pub port_of : Scanned → Option ℕ
port_of s = value_within 1 65533 s.port

-- ---- `meet`

-- nothing but `--port` and `--turns`
abbrev pub is_bare : Scanned → Bool
is_bare s = is_empty s.plain && (is_none s.instance && (is_none s.send
    && (is_none s.next && (is_none s.advance && (is_none s.journal && not s.introduce)))))

unfoldable pub meet_from : Scanned → Option MeetWords
meet_from s =
    if is_bare s then
    (port_of s >>= λ port. turns_of s >>= λ turns.
    Some (record { port = port; turns = turns }))
    else None

unfoldable pub meet_of : List (List ℕ) → Option MeetWords
meet_of parts = scan_behind (codes "meet") parts >>= meet_from

-- ---- `serve`

-- the bytes of so many digits
unfoldable pub of_digits : ℕ → List ℕ → Option (List ℕ)
of_digits count word = if length word == count then digits_of word else None

abbrev pub is_node_name : List ℕ → Bool
is_node_name word = nat_le 1 (length word) && (nat_le (length word) 64 && list_all (λ b. nat_lt b
    128) word)

unfoldable pub node_name_of : List ℕ → Option (List ℕ)
node_name_of word = only_if (is_node_name word) word

-- whom a word names: a service behind `n:`, else an end
unfoldable pub whom_of : List ℕ → Option Whom
whom_of word = either
    (of_digits 64 word >>= λ print. Some (Print print))
    (λ digits. service_of digits >>= λ name. Some (Name name))
    (behind_of (codes "n:") word)

unfoldable pub opening_of : List ℕ → Option OpeningWords
opening_of word = split_of 64 word >>= λ p. whom_of p.0 >>= λ whom. address_of p.1 >>= λ at.
    Some (record { whom = whom; at = at })

-- the openings of further words behind those that were read
unfoldable pub openings_from : List OpeningWords → List (List ℕ) → Option (List OpeningWords)
openings_from done [] = Some done
openings_from done (word ∷ words) = opening_of word >>= λ opening. openings_from
    (done ++ opening ∷ []) words

-- the plain words
pub record Places : Type 0 where
  pub bind : AddressParts
  pub group : List ℕ
  pub name : List ℕ
  pub openings : List OpeningWords

unfoldable pub places_of : List (List ℕ) → Option Places
places_of [] = None
places_of (bind ∷ []) = None
places_of (bind ∷ group ∷ []) = None
places_of (first ∷ second ∷ third ∷ words) =
    address_of first >>= λ bind.
    of_digits 64 second >>= λ group.
    node_name_of third >>= λ name.
    openings_from [] words >>= λ openings.
    Some (record { bind = bind; group = group; name = name; openings = openings })

unfoldable pub instance_of : Option (List ℕ) → Option (Option (List ℕ))
instance_of None = Some None
instance_of (Some word) = of_digits 32 word >>= λ bytes. Some (Some bytes)

unfoldable pub message_of : List ℕ → Option (List ℕ)
message_of word =
    if nat_le 1 (length word) && nat_le (length word) 2000 then digits_of word else None

unfoldable pub send_of : Option (List ℕ) → Option (Option (List ℕ))
send_of None = Some None
send_of (Some word) = message_of word >>= λ bytes. Some (Some bytes)

-- another secret than that of the group
unfoldable pub next_of : List ℕ → Option (List ℕ) → Option (Option (List ℕ))
next_of group None = Some None
next_of group (Some word) =
    of_digits 64 word >>= λ next. only_if (not (bytes_eq next group)) (Some next)

-- one of so many turns, where there is a next secret
unfoldable pub advance_of : Option (List ℕ) → ℕ → Option (List ℕ) → Option (Option ℕ)
advance_of next turns None = Some None
advance_of None turns (Some word) = None
advance_of (Some next) turns (Some word) = number_within 1 turns word >>= λ turn. Some (Some turn)

-- what a journal calls the end, where it is told
unfoldable pub journal_of : Option (List ℕ) → Option (Option (List ℕ))
journal_of None = Some None
journal_of (Some word) = name_of word >>= λ name. Some (Some name)

unfoldable pub serve_from : Scanned → Option Serving
serve_from s =
    if is_none s.port then
    (places_of s.plain >>= λ p.
    turns_of s >>= λ turns.
    instance_of s.instance >>= λ instance.
    send_of s.send >>= λ send.
    next_of p.group s.next >>= λ next.
    advance_of next turns s.advance >>= λ advance.
    journal_of s.journal >>= λ journal.
    Some (record {
      bind = p.bind;
      group = p.group;
      name = p.name;
      openings = p.openings;
      turns = turns;
      instance = instance;
      introduce = s.introduce;
      send = send;
      next = next;
      advance = advance;
      journal = journal;
    }))
    else None

unfoldable pub serve_of : List (List ℕ) → Option Serving
serve_of parts = scan_behind (codes "serve") parts >>= serve_from
