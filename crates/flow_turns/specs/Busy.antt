-- A set of flow IDs below 256, as the bits of four words.
use Rattle.std.specs.Prelude.{ℕ, ◌≡◌, ◌==◌, Bool, true, false, List, nat_lt}
use Rattle.flow_turns.specs.Turns.{bit_of}

-- the flow is in the set
abbrev pub has_flow : List ℕ → ℕ → Bool
has_flow words id = bit_of words id == 1

pub record HasOne (words : List ℕ) : Type 0 where
  pub id : ℕ
  pub there : has_flow words id ≡ true

-- one is in it, or none
abbrev pub HasAny : List ℕ → Bool → Type 0
HasAny words true = HasOne words
HasAny words false = (id : ℕ) → has_flow words id ≡ false

-- the word has a bit
abbrev pub is_used : ℕ → Bool
is_used word = nat_lt 0 word
