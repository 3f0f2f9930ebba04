-- How much a tick has left to do with a session's flows.
use Rattle.std.specs.Prelude.{ℕ, ◌+◌, ◌*◌, List, length}
use Rattle.std.specs.List.{sum_by}
use Rattle.flow_send.specs.Flow.{Flow}
use Rattle.session_flows.specs.declared.pace.Pace.{Pace}
use Rattle.session_flows.specs.Packing.{left_to_send}

-- the messages that wait
abbrev pub waiting_of : Flow → ℕ
waiting_of f = length f.sender.waiting

abbrev pub waiting_in : List Flow → ℕ
waiting_in sending = sum_by waiting_of sending

-- Each may be abandoned, and a notice is due then at most.
abbrev pub left_to_do : Pace → List Flow → ℕ
left_to_do pace sending = 2 * waiting_in sending + left_to_send pace sending
