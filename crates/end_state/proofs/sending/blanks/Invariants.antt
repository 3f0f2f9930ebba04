use Rattle.std.proofs.Common.{◌≡◌, length}
use Rattle.std.specs.List.{All}
use Rattle.end_state.proofs.sending.blanks.Given as goal

abbrev pub invariant-loop : goal.invariant-loop
invariant-loop l = record {
  each : All (λ bytes. length bytes.items ≡ 1200) l.list.items;
  count : length l.list.items ≡ l.counter;
}
