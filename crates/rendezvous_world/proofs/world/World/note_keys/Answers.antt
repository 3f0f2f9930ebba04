use Rattle.std.proofs.Common.{List, subst}
use Rattle.rendezvous_world.specs.declared.journal.JournalLine.{JournalLine}
use Rattle.rendezvous_world.specs.Sent.{sent_in}
use Rattle.rendezvous_world.specs.Keyed.{AreKeys}
use Rattle.rendezvous_world.proofs.Pieces.{kept_keys}
use Rattle.rendezvous_world.proofs.world.World.note_keys.Goals as goal

pub invariant_of-self : goal.invariant_of-self
invariant_of-self c =
    let i = c.self.inside in
    kept_keys i.moment i.ends.items i.named i.journal i.starts.items i.sent i.keyed c.note_keys.new.keyed c.self.invariant
    (subst (λ (ls : List JournalLine). AreKeys c.note_keys.new.keyed (sent_in ls)) c.lines.ensures c.note_keys.ensures)
