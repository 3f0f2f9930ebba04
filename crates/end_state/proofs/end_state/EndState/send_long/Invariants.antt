use Rattle.std.proofs.Common.{◌≡◌, ◌≤◌, IfSome, length}
use Rattle.std.specs.List.{All}
use Rattle.end_state.proofs.InPieces.{ArePartlySent, AreSmall, spare}
use Rattle.end_state.proofs.end_state.EndState.send_long.Given as goal

abbrev pub invariant-loop-piece : goal.invariant-loop-piece
invariant-loop-piece l = record {
  sent : ArePartlySent l.initial.self l.near l.to l.id l.initial.piece-iterator l.fn.out l.piece-iterator l.self l.out;
  small : AreSmall l.piece-iterator;
  blank : IfSome l.next (λ blank. length blank.items ≡ 1200);
  blanks : All (λ bytes. length bytes.items ≡ 1200) l.more.items;
  enough : length l.piece-iterator ≤ spare l.next l.more.items;
  room : length l.piece-iterator ≤ l.out.free;
}
