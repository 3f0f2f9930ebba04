use Rattle.std.proofs.Common.{◌≡◌, length}
use Rattle.std.specs.List.{list_any}
use Rattle.rendezvous_world.specs.Faults.{is_sent}
use Rattle.rendezvous_world.specs.Sent.{sent_in}
use Rattle.rendezvous_world.proofs.forgery.is_sent_in.Given as goal

abbrev pub invariant-loop-rest : goal.invariant-loop-rest
invariant-loop-rest l = list_any (is_sent l.bytes l.context) (sent_in l.rest) ≡ list_any (is_sent l.bytes l.context) (sent_in l.lines)

abbrev pub decreases-loop-rest : goal.decreases-loop-rest
decreases-loop-rest l = length l.rest
