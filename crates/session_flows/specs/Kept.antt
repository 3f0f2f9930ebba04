-- What a session keeps of its sending flows beside them: what all of them have in flight, the turns
-- of those that may send, and which aren't idle.
use Rattle.std.specs.Prelude.{ℕ, ◌≡◌, ◌≢◌, ◌+◌, ◌-◌, ◌*◌, ◌^◌, ◌%◌, ◌==◌, ◌&&◌, ◌<◌, ◌≤◌, Bool}
use Rattle.std.specs.Prelude.{false, List, Option, Some, None, slice_get}
use Rattle.flow_send.specs.Flow.{Flow}
use Rattle.session_flows.specs.declared.pace.Pace.{Pace}
use Rattle.session_flows.specs.declared.kept.Kept.{Kept}
use Rattle.flow_send.specs.declared.waiting.MessageOptions.{MessageOptions}
use Rattle.session_flows.specs.declared.bound.Bound.{Bound}
use Rattle.flow_turns.specs.Turns.{has_turn}
use Rattle.session_flows.specs.Bound.{bound_with, AreMild}
use Rattle.flow_turns.specs.Busy.{has_flow}
use Rattle.session_flows.specs.Keeping.{FlowsState, is_busy}
use Rattle.session_flows.specs.Packing.{may_send, flight_of, session_flight}
use Rattle.session_flows.specs.Laws.{IsSound}

-- the last moment, and no resend time
abbrev pub later : Pace
later = record { moment = 2 ^ 64 - 1; resend_after = 0; window = 0 }

-- the flow may send at some pace
abbrev pub may_later : Flow → Bool
may_later f = may_send later f

-- the sooner, the higher the priority, and then the lower the ID
abbrev pub turn_of : Flow → ℕ
turn_of f = (7 - f.priority) * 256 + f.id

-- the flow whose turn it is may send
abbrev pub is_turn_of : ℕ → Option Flow → Bool
is_turn_of turn None = false
is_turn_of turn (Some f) = (turn_of f == turn) && may_later f

abbrev pub is_turn : List Flow → ℕ → Bool
is_turn sending turn = is_turn_of turn (slice_get sending (turn % 256))

-- the flow at an index isn't idle
abbrev pub is_busy_of : Option Flow → Bool
is_busy_of None = false
is_busy_of (Some f) = is_busy f

-- ---- what is kept

pub record IsWithin (b : Bound) (f : Flow) : Type 0 where
  pub priority : f.priority ≤ 7
  pub flight : flight_of f < 2 ^ 64
  pub mild : AreMild b f.sender.waiting

pub record IsKept (sending : List Flow) (k : Kept) : Type 0 where
  pub flight : k.flight ≡ session_flight sending
  pub turns : (turn : ℕ) → has_turn k.turns turn ≡ is_turn sending turn
  pub busy : (id : ℕ) → has_flow k.busy id ≡ is_busy_of (slice_get sending id)
  pub within : (at : ℕ) (f : Flow) → slice_get sending at ≡ Some f → IsWithin k.bound f

pub record IsWhole (s : FlowsState) (k : Kept) : Type 0 where
  pub sound : IsSound s
  pub kept : IsKept s.sending k

-- ---- a message that was queued

abbrev pub noted : MessageOptions → Kept → Kept
noted options k = record k { bound = bound_with k.bound options }

-- ---- a flow that changed

-- it had so many bytes in flight before
pub record MayChange (k : Kept) (before : ℕ) (f : Flow) : Type 0 where
  pub held : before ≤ k.flight
  pub few : k.flight ≤ 2 ^ 72
  pub id : f.id < 256
  pub priority : f.priority ≤ 7

pub record IsChanged (k : Kept) (before : ℕ) (f : Flow) (new : Kept) : Type 0 where
  pub flight : new.flight ≡ k.flight - before + flight_of f
  pub bound : new.bound ≡ k.bound
  pub fits : flight_of f < 2 ^ 64
  pub own : has_turn new.turns (turn_of f) ≡ may_later f
  pub others : (turn : ℕ) → turn ≢ turn_of f → has_turn new.turns turn ≡ has_turn k.turns turn
  pub busy : has_flow new.busy f.id ≡ is_busy f
  pub rest : (id : ℕ) → id ≢ f.id → has_flow new.busy id ≡ has_flow k.busy id
