-- How the words are read, as functions of their texts.
use Rattle.std.specs.Prelude.{ℕ, ◌==◌, nat_le, Bool, true, false, if◌then◌else◌, List, [], ◌∷◌, codes, Option, Some, None}
use Rattle.std.specs.Str.{bytes_eq}
use Rattle.rtmfp_script.specs.Fields.{number_of, ◌>>=◌, either, only_if}
use Rattle.rtmfp_words.specs.declared.option.Setting.{Setting}
use Rattle.rtmfp_words.specs.declared.option.Setting.TheVariants.{Seed, Steps}
use Rattle.rtmfp_words.specs.declared.command.Command.{Command}
use Rattle.rtmfp_words.specs.declared.command.Command.TheVariants.{Show, Replay, Journal, Generate, Audit}

-- the first word, and the words behind it
unfoldable pub head_of : List (List ℕ) → Option (List ℕ × List (List ℕ))
head_of [] = None
head_of (part ∷ parts) = Some (part, parts)

abbrev pub is_empty : List (List ℕ) → Bool
is_empty [] = true
is_empty (part ∷ parts) = false

-- what stands behind this front
unfoldable pub behind_of : List ℕ → List ℕ → Option (List ℕ)
behind_of [] word = Some word
behind_of (x ∷ front) [] = None
behind_of (x ∷ front) (y ∷ word) = if y == x then behind_of front word else None

-- ---- options

unfoldable pub seed_of : List ℕ → Option Setting
seed_of value = number_of value >>= λ n. Some (Seed n)

unfoldable pub steps_of : List ℕ → Option Setting
steps_of value = number_of value >>= λ n. only_if (nat_le n 100000) (Steps n)

-- an option by its name and its value
unfoldable pub setting_of : List ℕ → List ℕ → Option Setting
setting_of name value =
    if bytes_eq name (codes "--generate") then seed_of value
    else if bytes_eq name (codes "--steps") then steps_of value
    else None

-- an option that is one word
unfoldable pub joined_of : List ℕ → Option Setting
joined_of word = either (behind_of (codes "--steps=") word >>= steps_of) seed_of
    (behind_of (codes "--generate=") word)

-- an option whose value is the next word
unfoldable pub apart_of : List ℕ → List (List ℕ) → Option (Setting × List (List ℕ))
apart_of name parts = head_of parts >>= λ p. setting_of name p.0 >>= λ setting. Some (setting, p.1)

-- the option that stands in front, and the words behind it
unfoldable pub option_of : List (List ℕ) → Option (Setting × List (List ℕ))
option_of parts = head_of parts >>= λ p. either (apart_of p.0 p.1) (λ setting. Some (setting, p.1))
    (joined_of p.0)

-- ---- commands

unfoldable pub both : Setting → Setting → Option Command
both (Seed seed) (Seed other) = None
both (Seed seed) (Steps steps) = Some (Generate seed steps)
both (Steps steps) (Seed seed) = Some (Generate seed steps)
both (Steps steps) (Steps other) = None

unfoldable pub generate_of : List (List ℕ) → Option Command
generate_of parts = option_of parts >>= λ a. option_of a.1 >>= λ b. (if is_empty b.1 then
    both a.0 b.0 else None)

unfoldable pub journal_of : List (List ℕ) → Option Command
journal_of parts = only_if (is_empty parts) Journal

-- the options of `replay`
unfoldable pub options_of : List (List ℕ) → Option Command
options_of parts = head_of parts >>= λ p.
    (if bytes_eq p.0 (codes "--journal") then journal_of p.1
    else generate_of parts)

unfoldable pub replay_of : List (List ℕ) → Option Command
replay_of parts = if is_empty parts then Some Replay else options_of parts

unfoldable pub show_of : List (List ℕ) → Option Command
show_of parts = only_if (is_empty parts) Show

unfoldable pub audit_of : List (List ℕ) → Option Command
audit_of parts = only_if (is_empty parts) Audit

unfoldable pub command_of : List (List ℕ) → Option Command
command_of parts = head_of parts >>= λ p.
    (if bytes_eq p.0 (codes "show") then show_of p.1
    else if bytes_eq p.0 (codes "replay") then replay_of p.1
    else if bytes_eq p.0 (codes "audit") then audit_of p.1
    else None)
