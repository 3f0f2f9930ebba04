use Rattle.std.proofs.Common.{◌≡◌, ◌≤◌, ◌+◌, length, take}
use Rattle.std.specs.List.{All}
use Rattle.endpoint_model.specs.State.{Done}
use Rattle.endpoint_model.specs.Sending.{sent_each}
use Rattle.end_state.proofs.end_state.EndState.send_each.Given as goal

abbrev pub invariant-loop-to : goal.invariant-loop-to
invariant-loop-to l = record {
  done : Done (sent_each l.fn.self l.plain (take l.to-index l.addresses)) l.self l.fn.out l.out;
  each : All (λ bytes. length bytes.items ≡ 1200) l.blanks.items;
  enough : length l.addresses ≤ l.to-index + length l.blanks.items;
  room : length l.addresses ≤ l.to-index + l.out.free;
}
