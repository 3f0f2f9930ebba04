-- A sender and a receiver at some moment of an exchange, for histories that have them among others.
use Rattle.std.specs.Prelude.{ℕ, ◌≡◌, ◌≤◌, Bool, List}
use Rattle.flow_exchange.specs.Pair.{Happening, Pair, pair, exchanged}

-- some happenings lead to them
pub record IsExchange (arriving : Bool) (p : Pair) : Type 0 where
  pub first : ℕ
  pub begins : 1 ≤ first
  pub events : List Happening
  pub leads : exchanged (pair first arriving) events ≡ p
