use Rattle.rendezvous_world.specs.Sent.{sent_in}
use Rattle.rendezvous_world.proofs.Keying.{IsLeft, count_left}
use Rattle.rendezvous_world.proofs.forgery.is_sent_by_key.Given as goal

abbrev pub invariant-loop-last : goal.invariant-loop-last
invariant-loop-last l = IsLeft l.bytes l.context (sent_in l.lines) l.last

abbrev pub decreases-loop-last : goal.decreases-loop-last
decreases-loop-last l = count_left l.last
