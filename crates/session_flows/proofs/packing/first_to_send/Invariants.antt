use Rattle.std.proofs.Common.{◌≤◌, ◌-◌}
use Rattle.session_flows.proofs.Turned.{NoneBefore}
use Rattle.session_flows.proofs.packing.first_to_send.Given as goal

abbrev pub invariant-loop-turn : goal.invariant-loop-turn
invariant-loop-turn l = record { within : l.from ≤ 2048; none : NoneBefore l.pace l.sending l.from }

abbrev pub decreases-loop-turn : goal.decreases-loop-turn
decreases-loop-turn l = 2048 - l.from
