-- The secrets of a group that are made of the numbers of their generations (own).
use Rattle.std.specs.Prelude.{ℕ, zero, suc, ◌+◌, ◌%◌, ◌^◌, List, ◌++◌, replicate}
use Rattle.std.specs.Int.{w64, to_be_bytes}
use Rattle.std.specs.Ordering.{nat_cmp}
use Rattle.std.specs.FinMap.{FinMap, empty, insert}

-- the secret in a generation: 24 bytes 0, and the number
abbrev pub counted_secret : ℕ → List ℕ
counted_secret generation = replicate 24 0 ++ to_be_bytes w64 generation

-- that in the generation after this one, whose number has 64 bits
abbrev pub secret_after : ℕ → List ℕ
secret_after generation = counted_secret ((generation + 1) % 2 ^ 64)

-- the secrets of all generations below a number
unfoldable pub secrets_below : ℕ → FinMap nat_cmp (List ℕ)
secrets_below zero = empty
secrets_below (suc generation) =
    insert (secrets_below generation) generation (counted_secret generation)

-- those of all generations that there are
abbrev pub counted_secrets : FinMap nat_cmp (List ℕ)
counted_secrets = secrets_below (2 ^ 64)
