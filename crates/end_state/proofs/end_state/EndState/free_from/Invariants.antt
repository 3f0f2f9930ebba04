use Rattle.std.proofs.Common.{◌≡◌, ◌+◌, ◌-◌}
use Rattle.endpoint_model.specs.State.{free_among, free_from, uses}
use Rattle.end_state.proofs.end_state.EndState.free_from.Given as goal

abbrev pub invariant-loop : goal.invariant-loop
invariant-loop l = free_from l.self l.word ≡ free_among (uses l.self + 1 - l.counter) l.self l.id
