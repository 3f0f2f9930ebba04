use Rattle.std.proofs.Common.{◌≤◌, length}
use Rattle.endpoint_laws.specs.Complete.{outs_in}
use Rattle.log_sent.proofs.Going.{IsToCome}
use Rattle.log_sent.proofs.pieces.Pieces.put_all.Given as goal

abbrev pub invariant-loop-rest : goal.invariant-loop-rest
invariant-loop-rest l = record {
  room : outs_in l.rest ≤ l.self.spare;
  whole : IsToCome l.rest l.self.each l.entries l.fn.self.each;
}

abbrev pub decreases-loop-rest : goal.decreases-loop-rest
decreases-loop-rest l = length l.rest
