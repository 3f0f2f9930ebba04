-- What is so of every receiver.
use Rattle.std.specs.Prelude.{◌≡◌, ◌≤◌, true, List, [], ◌∷◌}
use Rattle.flow_recv.specs.declared.spans.Span.{Span}
use Rattle.rtmfp_data_chunks.specs.Runs.{Run}
use Rattle.flow_recv.specs.Receiver.{Receiver, Apart, FromZero, is_alive, held_in}
use Rattle.flow_recv.specs.Window.{IsWithin}

-- each run goes upward and can still become a message
abbrev pub AllAlive : List Span → List Run → Type 0
AllAlive spans [] = Unit {0}
AllAlive spans (y ∷ later) = (y.first ≤ y.last) × (is_alive spans y ≡ true) × AllAlive spans later

-- it holds at most 3,145,728 bytes, and at most 65,536 numbers above its lowest missing one aren't
-- missing
pub record Sound (r : Receiver) : Type 0 where
  pub bytes : held_in r.runs ≤ 3145728
  pub window : IsWithin r
  pub apart : Apart r.spans
  pub zero : FromZero r.spans
  pub alive : AllAlive r.spans r.runs
