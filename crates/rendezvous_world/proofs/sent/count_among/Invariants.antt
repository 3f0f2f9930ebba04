use Rattle.std.proofs.Common.{◌≡◌, ◌+◌, ◌≤◌, length}
use Rattle.rendezvous_world.specs.Sent.{sent_among}
use Rattle.rendezvous_world.proofs.sent.count_among.Given as goal

abbrev pub invariant-loop-rest : goal.invariant-loop-rest
invariant-loop-rest l = record {
  value : l.count + length (sent_among l.by l.rest) ≡ length (sent_among l.by l.entries);
  small : l.count + length l.rest ≤ length l.entries;
}

abbrev pub decreases-loop-rest : goal.decreases-loop-rest
decreases-loop-rest l = length l.rest
