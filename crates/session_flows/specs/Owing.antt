-- The acks that a call owes after its chunks: one of each flow of which it took a chunk or a buffer
-- probe, by rising ID.
use Rattle.std.specs.Prelude.{ℕ, ◌+◌, ◌-◌, nat_lt, false, if◌then◌else◌, map, Bool, List, [], ◌∷◌}
use Rattle.std.specs.Prelude.{◌++◌, length}
use Rattle.std.specs.List.{list_any, filter}
use Rattle.rtmfp_forms.specs.Outgoing.{packet_limit}
use Rattle.flow_recv.specs.Acking.{ack_head, ack_bytes}
use Rattle.session_flows.specs.declared.taking.TakingFlow.{TakingFlow}
use Rattle.session_flows.specs.Keeping.{FlowsState, with_taking}

abbrev pub is_owed : TakingFlow → Bool
is_owed t = t.owed

abbrev pub owes : FlowsState → Bool
owes s = list_any is_owed s.taking

-- how many are owed
abbrev pub owed_in : List TakingFlow → ℕ
owed_in taking = length (filter is_owed taking)

abbrev pub owed_count : FlowsState → ℕ
owed_count s = owed_in s.taking

abbrev pub paid : TakingFlow → TakingFlow
paid t = record t { owed = false }

-- flows, and a packet that was begun
pub record Acked : Type 0 where
  pub taking : List TakingFlow
  pub packet : List ℕ

abbrev pub with_front : TakingFlow → Acked → Acked
with_front t a = record { taking = t ∷ a.taking; packet = a.packet }

-- the head of an ack has no room: its type, its length, and what comes before its pairs
abbrev pub is_full_for : TakingFlow → List ℕ → Bool
is_full_for t packet = nat_lt packet_limit (length packet + 3 + length (ack_head t.id t.receiver))

-- One after another they go into the packet, each with as many pairs as fit. The first whose head
-- has no room, and those after it, are left for the next packet.
abbrev pub acks_put : List TakingFlow → List ℕ → Acked
acks_put [] packet = record { taking = []; packet = packet }
acks_put (t ∷ later) packet =
    if t.owed then
    (if is_full_for t packet then record { taking = t ∷ later; packet = packet }
    else with_front (paid t) (acks_put later
    (packet ++ ack_bytes t.id (packet_limit - length packet - 3) t.receiver)))
    else with_front t (acks_put later packet)

abbrev pub after_acks : FlowsState → List ℕ → FlowsState
after_acks s packet = with_taking s (acks_put s.taking packet).taking

-- Those that find no memory aren't sent: none is owed any more.
abbrev pub owing_none : FlowsState → FlowsState
owing_none s = with_taking s (map paid s.taking)
