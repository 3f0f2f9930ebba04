use Rattle.std.proofs.Common.{◌-◌, length}
use Rattle.rendezvous_world.specs.Sent.{sent_in}
use Rattle.rendezvous_world.specs.Keyed.{AreKeys}
use Rattle.rendezvous_world.proofs.forgery.note_keys.Given as goal

abbrev pub invariant-loop-letter : goal.invariant-loop-letter
invariant-loop-letter l = AreKeys l.keyed (sent_in l.lines)

abbrev pub decreases-loop-letter : goal.decreases-loop-letter
decreases-loop-letter l = length (sent_in l.lines) - length l.keyed
