-- What a session keeps of its flows, and what one thing that is done with them leaves and states.
use Rattle.std.specs.Prelude.{ℕ, ◌==◌, nat_lt, not, Bool, false, if◌then◌else◌, List, [], ◌∷◌}
use Rattle.std.specs.Prelude.{◌++◌, Option, Some, None, slice_get, slice_set}
use Rattle.std.specs.List.{list_any}
use Rattle.flow_send.specs.Sender.{is_idle}
use Rattle.flow_send.specs.Flow.{Flow}
use Rattle.flow_recv.specs.Receiver.{Receiver}
use Rattle.session_flows.specs.declared.taking.TakingFlow.{TakingFlow}

-- The sending flows were opened here, and the index of each is its ID: 0, 1, 2 and on. The
-- receiving ones were made by chunks of the other end, and stand by rising IDs. A flow stays for as
-- long as its session is kept.
pub record FlowsState : Type 0 where
  pub sending : List Flow
  pub taking : List TakingFlow

abbrev pub no_flows : FlowsState
no_flows = record { sending = []; taking = [] }

abbrev pub with_sending : FlowsState → List Flow → FlowsState
with_sending s sending = record s { sending = sending }

abbrev pub with_taking : FlowsState → List TakingFlow → FlowsState
with_taking s taking = record s { taking = taking }

-- ---- sending flows

-- it isn't idle
abbrev pub is_busy : Flow → Bool
is_busy f = not (is_idle f.sender)

-- One isn't.
abbrev pub may_be_due : FlowsState → Bool
may_be_due s = list_any is_busy s.sending

abbrev pub sending_at : FlowsState → ℕ → Option Flow
sending_at s id = slice_get s.sending id

abbrev pub with_flow : FlowsState → ℕ → Flow → FlowsState
with_flow s id f = with_sending s (slice_set s.sending id f)

-- ---- receiving flows

abbrev pub in_taking : ℕ → List TakingFlow → Option TakingFlow
in_taking id [] = None
in_taking id (t ∷ later) = if t.id == id then Some t else in_taking id later

abbrev pub taking_at : FlowsState → ℕ → Option TakingFlow
taking_at s id = in_taking id s.taking

-- a flow that nothing was taken of, whose messages are handed over as they arrive or in order
abbrev pub new_taking : ℕ → Receiver → TakingFlow
new_taking id receiver = record { id = id; receiver = receiver; owed = false }

-- with one more, before those with higher IDs
abbrev pub added : TakingFlow → List TakingFlow → List TakingFlow
added t [] = t ∷ []
added t (u ∷ later) = if nat_lt t.id u.id then t ∷ (u ∷ later) else u ∷ added t later

-- with the one of an ID changed
abbrev pub changed : (TakingFlow → TakingFlow) → ℕ → List TakingFlow → List TakingFlow
changed f id [] = []
changed f id (t ∷ later) = if t.id == id then f t ∷ later else t ∷ changed f id later

abbrev pub with_changed : FlowsState → ℕ → (TakingFlow → TakingFlow) → FlowsState
with_changed s id f = with_taking s (changed f id s.taking)

-- ---- what is stated

-- A sending flow was opened; a message of it was queued or abandoned, by the number of its first
-- fragment; or it was finished, with its last number. A message of a receiving flow was handed
-- over.
pub data Stated : Type 0 where
  Opened : (flow : ℕ) → Stated
  Queued : (flow seq : ℕ) → (message : List ℕ) → Stated
  Abandoned : (flow seq : ℕ) → Stated
  Finished : (flow seq : ℕ) → Stated
  Handed : (flow seq : ℕ) → (message : List ℕ) → Stated

-- what one thing leaves of the flows, and what it states, in order
pub record Did : Type 0 where
  pub flows : FlowsState
  pub stated : List Stated

abbrev pub nothing : FlowsState → Did
nothing s = record { flows = s; stated = [] }

-- one thing, and then what another does with the flows that the first left
abbrev pub after_stated : List Stated → Did → Did
after_stated stated d = record { flows = d.flows; stated = stated ++ d.stated }

abbrev pub then_do : Did → (FlowsState → Did) → Did
then_do d next = after_stated d.stated (next d.flows)
