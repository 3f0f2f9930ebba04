use Rattle.std.proofs.Common.{◌≡◌, ◌++◌, take, drop, map}
use Rattle.session_flows.specs.Owing.{paid}
use Rattle.session_flows.proofs.acks.forget.Given as goal

abbrev pub invariant-loop-flow : goal.invariant-loop-flow
invariant-loop-flow l = take l.flow-index l.taking ++ map paid (drop l.flow-index l.taking) ≡ map paid l.fn.taking
