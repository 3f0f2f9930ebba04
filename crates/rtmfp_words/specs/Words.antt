-- The words of the command line after the program's name (own).
use Rattle.std.specs.Prelude.{◌≡◌, ◌⊎◌, ℕ, ◌^◌, ◌<◌, ◌≤◌, List, [], ◌∷◌, ◌++◌, map, codes, decimal, Option, Some, None, String, string_bytes}
use Rattle.std.specs.declared.alloc.Global.{Global}
use Rattle.rtmfp_words.specs.declared.command.Command.{Command}
use Rattle.rtmfp_words.specs.declared.command.Command.TheVariants.{Show, Replay, Journal, Generate, Audit}

-- the one word `show`
abbrev pub IsShow : List (String Global) → Type 0
IsShow words = map string_bytes words ≡ codes "show" ∷ []

-- the one word `replay`
abbrev pub IsReplay : List (String Global) → Type 0
IsReplay words = map string_bytes words ≡ codes "replay" ∷ []

-- the two words `replay` and `--journal`
abbrev pub IsJournal : List (String Global) → Type 0
IsJournal words = map string_bytes words ≡ codes "replay" ∷ codes "--journal" ∷ []

-- the one word `audit`
abbrev pub IsAudit : List (String Global) → Type 0
IsAudit words = map string_bytes words ≡ codes "audit" ∷ []

-- an option is its name and its value as two words, or one word with `=` between them
abbrev pub OptionSpells : List ℕ → List ℕ → List (List ℕ) → Type 0
OptionSpells name value parts = (parts ≡ name ∷ value ∷ []) ⊎
    (parts ≡ (name ++ codes "=" ++ value) ∷ [])

-- `replay` with its two options, one after another, in one of the two orders
pub record IsGenerate (words : List (String Global)) (seed steps : ℕ) : Type 0 where
  pub seed_parts : List (List ℕ)
  pub steps_parts : List (List ℕ)
  pub seed_spells : OptionSpells (codes "--generate") (decimal seed) seed_parts
  pub steps_spells : OptionSpells (codes "--steps") (decimal steps) steps_parts
  pub seed_fits : seed < 2 ^ 64
  pub few_steps : steps ≤ 100000
  pub order :
      (map string_bytes words ≡ codes "replay" ∷ (seed_parts ++ steps_parts)) ⊎
      (map string_bytes words ≡ codes "replay" ∷ (steps_parts ++ seed_parts))

-- words that say none of these
pub record IsOther (words : List (String Global)) : Type 0 where
  pub not_show : IsShow words → ⊥
  pub not_replay : IsReplay words → ⊥
  pub not_journal : IsJournal words → ⊥
  pub not_generate : (seed steps : ℕ) → IsGenerate words seed steps → ⊥
  pub not_audit : IsAudit words → ⊥

-- what the words say
abbrev pub Reads : List (String Global) → Option Command → Type 0
Reads words None = IsOther words
Reads words (Some Show) = IsShow words
Reads words (Some Replay) = IsReplay words
Reads words (Some Journal) = IsJournal words
Reads words (Some (Generate seed steps)) = IsGenerate words seed steps
Reads words (Some Audit) = IsAudit words
