use Rattle.std.proofs.Common.{◌≡◌, length}
use Rattle.std.specs.List.{list_any}
use Rattle.rendezvous_world.specs.Faults.{is_sent}
use Rattle.rendezvous_world.specs.Sent.{sent_among}
use Rattle.rendezvous_world.proofs.forgery.is_sent_among.Given as goal

abbrev pub invariant-loop-rest : goal.invariant-loop-rest
invariant-loop-rest l = list_any (is_sent l.bytes l.context) (sent_among l.by l.rest) ≡ list_any (is_sent l.bytes l.context) (sent_among l.by l.entries)

abbrev pub decreases-loop-rest : goal.decreases-loop-rest
decreases-loop-rest l = length l.rest
