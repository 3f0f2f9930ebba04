-- The random values of a call, which the number of its line decides.
use Rattle.std.specs.Prelude.{ℕ, List, ◌++◌}
use Rattle.std.specs.Int.{w64, to_be_bytes}
use Rattle.endpoint_model.specs.declared.config.Draws.{Draws}

-- two numbers of 64 bits
abbrev pub two_numbers : ℕ → ℕ → List ℕ
two_numbers first second = to_be_bytes w64 first ++ to_be_bytes w64 second

abbrev pub draws_of : ℕ → Draws
draws_of line = record {
  nonce = two_numbers 0 line;
  tag = two_numbers 2 line;
  token = two_numbers 1 line;
  word = line;
}
