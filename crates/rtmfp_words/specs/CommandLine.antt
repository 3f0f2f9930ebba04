-- What the words of the command line say, of all commands (own).
use Rattle.std.specs.Prelude.{◌≡◌, ◌⊎◌, ℕ, List, ◌∷◌, map, codes, Some, String, string_bytes, Result}
use Rattle.std.specs.declared.result.Result.TheVariants.{Ok, Err}
use Rattle.std.specs.declared.alloc.Global.{Global}
use Rattle.rtmfp_words.specs.Node.{IsMeet, IsServe, Serving}
use Rattle.rtmfp_words.specs.Words.{IsAudit, IsGenerate, IsJournal, IsReplay, IsShow, Reads}
use Rattle.rtmfp_words.specs.declared.command_line.CommandLine.{CommandLine}
use Rattle.rtmfp_words.specs.declared.command_line.CommandLine.TheVariants.{Lines, Serve, Meet}
use Rattle.rtmfp_words.specs.declared.fault.WordsFault.{WordsFault}
use Rattle.rtmfp_words.specs.declared.fault.WordsFault.TheVariants.{Faulty, Memory}

-- words that say no command
pub record IsFaulty (words : List (String Global)) : Type 0 where
  pub not_show : IsShow words → ⊥
  pub not_replay : IsReplay words → ⊥
  pub not_journal : IsJournal words → ⊥
  pub not_generate : (seed steps : ℕ) → IsGenerate words seed steps → ⊥
  pub not_audit : IsAudit words → ⊥
  pub not_serve : (v : Serving) → IsServe words v → ⊥
  pub not_meet : (port turns : ℕ) → IsMeet words port turns → ⊥

-- what the words say
abbrev pub Says : List (String Global) → CommandLine → Type 0
Says words (Lines command) = Reads words (Some command)
Says words (Serve v) = IsServe words v
Says words (Meet m) = IsMeet words m.port m.turns

-- the first word is this
abbrev pub BeginsWith : List ℕ → List (String Global) → Type 0
BeginsWith word words = (rest : List (List ℕ)) × (map string_bytes words ≡ word ∷ rest)

-- the first word is that of a command that runs nodes
abbrev pub NamesNode : List (String Global) → Type 0
NamesNode words = BeginsWith (codes "serve") words ⊎ BeginsWith (codes "meet") words

abbrev pub SaysNode : List (String Global) → Result CommandLine WordsFault → Type 0
SaysNode words (Ok line) = Says words line
SaysNode words (Err Faulty) = IsFaulty words
SaysNode words (Err Memory) = NamesNode words
