-- The window of the bytes in flight (own).
use Rattle.std.specs.Prelude.{ℕ, ◌+◌, ◌*◌, ◌/◌, ◌≤◌, max, min, Bool, nat_lt, if◌then◌else◌}
use Rattle.session_core.specs.declared.congestion.Congestion.{Congestion}

abbrev pub first_congestion : Congestion
first_congestion = record { window = 4380; threshold = 1048576 }

-- what newly acknowledged bytes add to the window
abbrev pub growth : Congestion → ℕ → ℕ
growth c bytes = if nat_lt c.window c.threshold then bytes else 1000 * bytes / c.window

abbrev pub grown : ℕ → Congestion → Congestion
grown bytes c = record { window = min 1048576 (c.window + growth c bytes); threshold = c.threshold }

-- what a loss leaves of the window
abbrev pub halved : ℕ → ℕ
halved window = max (window / 2) 4380

abbrev pub shrunk : Bool → Congestion → Congestion
shrunk by_time c = record {
  window = if by_time then 4380
      else halved c.window;
  threshold = halved c.window;
}

-- the window is never smaller than at first, nor greater than 1,048,576
pub record IsCongestion (c : Congestion) : Type 0 where
  pub least : 4380 ≤ c.window
  pub most : c.window ≤ 1048576
