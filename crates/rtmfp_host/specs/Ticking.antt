-- The moments that a clock has still to give, where it tells them.
use Rattle.std.specs.Prelude.{◌≡◌, ℕ, List, [], ◌∷◌, drop, Option, Some, None}

-- the moments that are left, and the last one that was given, 0 before the first
pub record Clock : Type 0 where
  pub left : List ℕ
  pub last : ℕ

-- an empty list gives the last moment again
abbrev pub next_in : List ℕ → ℕ → ℕ
next_in [] last = last
next_in (moment ∷ left) last = moment

abbrev pub next_moment : Clock → ℕ
next_moment clock = next_in clock.left clock.last

abbrev pub after_moment : Clock → Clock
after_moment clock = record { left = drop 1 clock.left; last = next_moment clock }

-- what one look at the clock does
abbrev pub Ticks : Option Clock → Option Clock → ℕ → Type 0
Ticks before None moment = Unit {0}
Ticks None (Some now) moment = ⊥
Ticks (Some before) (Some now) moment =
    (moment ≡ next_moment before) × (now ≡ after_moment before)
