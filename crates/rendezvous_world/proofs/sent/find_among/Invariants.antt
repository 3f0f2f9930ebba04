use Rattle.std.proofs.Common.{◌≡◌, length}
use Rattle.rendezvous_world.specs.Datagrams.{nth}
use Rattle.rendezvous_world.specs.Sent.{sent_among}
use Rattle.rendezvous_world.proofs.sent.find_among.Given as goal

abbrev pub invariant-loop-rest : goal.invariant-loop-rest
invariant-loop-rest l = nth (sent_among l.by l.rest) l.left ≡ nth (sent_among l.by l.entries) l.number

abbrev pub decreases-loop-rest : goal.decreases-loop-rest
decreases-loop-rest l = length l.rest
