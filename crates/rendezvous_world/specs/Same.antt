-- Two worlds that are the same, but for what is a matter of memory.
use Rattle.std.specs.Prelude.{◌≡◌, map}
use Rattle.rendezvous_world.specs.declared.journal.JournalLine.{JournalLine}
use Rattle.rendezvous_world.specs.Seen.{Seen}

-- a line of a journal, but for the room that its outbox has left
abbrev pub without_room : JournalLine → JournalLine
without_room line = record line { out = record { entries = line.out.entries; free = 0; room = 0 } }

-- Two worlds are the same but for such room.
pub record AreSameWorlds (w t : Seen) : Type 0 where
  pub moment : w.moment ≡ t.moment
  pub ends : w.ends ≡ t.ends
  pub lines : map without_room w.lines ≡ map without_room t.lines
