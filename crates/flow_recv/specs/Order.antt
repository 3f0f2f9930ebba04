-- The runs of a receiver by rising number, and the numbers that they have.
use Rattle.std.specs.Prelude.{ℕ, ◌≡◌, ◌+◌, ◌<◌, ◌≤◌, true, false, List, [], ◌∷◌}
use Rattle.flow_recv.specs.declared.spans.Span.{Span}
use Rattle.rtmfp_data_chunks.specs.Runs.{Run}
use Rattle.flow_recv.specs.Receiver.{Receiver, knows, held_in}
use Rattle.flow_recv.specs.Sound.{Sound}
use Rattle.flow_recv.specs.Reached.{IsReached}

-- the runs go upward from a number on, and no two have a number
abbrev pub InOrder : ℕ → List Run → Type 0
InOrder low [] = Unit {0}
InOrder low (y ∷ later) = (low ≤ y.first) × (y.first ≤ y.last) × InOrder (y.last + 1) later

-- none of their numbers is missing
abbrev pub AllKnown : List Span → List Run → Type 0
AllKnown spans [] = Unit {0}
AllKnown spans (y ∷ later) = ((n : ℕ) → y.first ≤ n → n ≤ y.last → knows spans n ≡ true) ×
    AllKnown spans later

-- the numbers up to one don't reach an end that a run lacks
abbrev pub AllOpen : ℕ → List Run → Type 0
AllOpen through [] = Unit {0}
AllOpen through (y ∷ later) = (y.front ≡ false → through < y.first) ×
    (y.rear ≡ false → through ≤ y.last) × AllOpen through later

-- a sound receiver that calls lead to and whose runs lie so, and the bytes that they hold
pub record Laid (r : Receiver) (held : ℕ) : Type 0 where
  pub reached : IsReached r
  pub sound : Sound r
  pub order : InOrder 0 r.runs
  pub known : AllKnown r.spans r.runs
  pub top : (n : ℕ) → knows r.spans n ≡ true → n ≤ r.highest
  pub sum : held ≡ held_in r.runs
