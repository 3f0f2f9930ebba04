-- When a question is answered rightly that is asked of a session ID.
use Rattle.std.specs.Prelude.{ℕ, ◌≡◌, ◌%◌, ◌^◌, Bool, true}

-- A question of a session ID is answered with yes where it is so, and there alone. Of a number of
-- more than 32 bits it is never so: one of which it is so is the session ID that its last 32 bits
-- are.
pub record TellsUnder (sid : ℕ) (IsSo : ℕ → Type 0) (it : Bool) : Type 0 where
  pub yes : it ≡ true → IsSo sid
  pub no : (id : ℕ) → id % 2 ^ 32 ≡ sid → IsSo id → it ≡ true
