-- What is known of rows that come one after another.
use Prim.Native.Nat.{zero, suc}
use Rattle.std.specs.Prelude.{ℕ, ◌≡◌, true, List, [], ◌∷◌, drop}
use Rattle.flow_send.specs.Rows.{Row, is_acknowledged}

-- the first so many rows are there and acknowledged
abbrev pub AllAcked : ℕ → List Row → Type 0
AllAcked zero rows = Unit {0}
AllAcked (suc k) [] = ⊥
AllAcked (suc k) (r ∷ rows) = (is_acknowledged r.state ≡ true) × AllAcked k rows

-- from each row on so many are
abbrev pub ArePassed : List ℕ → List Row → Type 0
ArePassed [] rows = Unit {0}
ArePassed (k ∷ counts) rows = AllAcked k rows × ArePassed counts (drop 1 rows)

-- such counts, and for how many more there is room
pub record Known : Type 0 where
  pub counts : List ℕ
  pub room : ℕ

abbrev pub known : List ℕ → ℕ → Known
known counts room = record { counts = counts; room = room }
