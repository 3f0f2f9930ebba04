-- Messages that receiving flows hand over.
use Prim.Native.Nat.{zero, suc}
use Rattle.std.specs.Prelude.{ℕ, List, [], ◌∷◌, Option, Some, None, length}
use Rattle.rtmfp_data_chunks.specs.Runs.{Run}
use Rattle.flow_recv.specs.Receiver.{Receiver, next_run, handed_next}
use Rattle.session_flows.specs.declared.taking.TakingFlow.{TakingFlow}
use Rattle.session_flows.specs.Keeping.{FlowsState, taking_at, with_changed, Stated, Handed}
use Rattle.session_flows.specs.Keeping.{Did, nothing, then_do}

abbrev pub with_receiver : (Receiver → Receiver) → TakingFlow → TakingFlow
with_receiver f t = record t { receiver = f t.receiver }

-- ---- the next message of a flow

abbrev pub handed_run : FlowsState → ℕ → Option Run → Did
handed_run s id None = nothing s
handed_run s id (Some y) = record {
  flows = with_changed s id (with_receiver handed_next);
  stated = Handed id y.first y.bytes ∷ [];
}

abbrev pub hands_by : FlowsState → ℕ → Option TakingFlow → Did
hands_by s id None = nothing s
hands_by s id (Some t) = handed_run s id (next_run t.receiver)

abbrev pub hands_once : FlowsState → ℕ → Did
hands_once s id = hands_by s id (taking_at s id)

-- what was handed over, as it is stated
abbrev pub handed_stated : ℕ → Option (ℕ × List ℕ) → List Stated
handed_stated id None = []
handed_stated id (Some found) = Handed id found.0 found.1 ∷ []

-- ---- all that are ready

-- so many, one after another
abbrev pub hands : ℕ → ℕ → FlowsState → Did
hands zero id s = nothing s
hands (suc count) id s = then_do (hands_once s id) (hands count id)

-- how many a flow has at most
abbrev pub most_by : Option TakingFlow → ℕ
most_by None = 0
most_by (Some t) = length t.receiver.runs

abbrev pub hands_all : FlowsState → ℕ → Did
hands_all s id = hands (most_by (taking_at s id)) id s
