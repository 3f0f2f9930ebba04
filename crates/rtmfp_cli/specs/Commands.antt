-- What each command does, and what it leaves of the six objects that it is given.
use Rattle.std.specs.Prelude.{◌≡◌, ◌⊎◌, ℕ, ◌≤◌, Bool, true, false, List, Option, String}
use Rattle.std.specs.declared.alloc.Global.{Global}
use Rattle.rtmfp_audit.specs.Audits.{AuditEnds}
use Rattle.rtmfp_host.specs.Drawing.{EntropySeen}
use Rattle.rtmfp_host.specs.Faults.{Rose}
use Rattle.rtmfp_host.specs.Linking.{LinkSeen}
use Rattle.rtmfp_host.specs.Seen.{SinkSeen, SourceSeen}
use Rattle.rtmfp_host.specs.Spawning.{SpawnerSeen}
use Rattle.rtmfp_host.specs.Ticking.{Clock}
use Rattle.rtmfp_lines.specs.Outside.{outside}
use Rattle.rtmfp_lines.specs.declared.status.Status.{Status as RunStatus}
use Rattle.rtmfp_lines.specs.declared.status.Status.TheVariants as status
use Rattle.rtmfp_meet.specs.Meeting.{MeetEnds, sides}
use Rattle.rtmfp_node.specs.declared.served.Served.{Served}
use Rattle.rtmfp_node.specs.declared.served.Served.TheVariants as served
use Rattle.rtmfp_node.specs.Outside.{Counted, PassesOn, Outside as NodeOutside, outside as node_outside}
use Rattle.rtmfp_node.specs.Whole.{Ends}
use Rattle.rtmfp_play.specs.Generated.{GeneratedEnds}
use Rattle.rtmfp_words.specs.CommandLine.{NamesNode}
use Rattle.rtmfp_words.specs.Node.{IsMeet, IsNodeName, IsServe, Serving}
use Rattle.rtmfp_words.specs.Words.{IsAudit, IsJournal, IsReplay, IsShow}
use Rattle.rtmfp_words.specs.declared.command.Command.TheVariants.{Show, Replay, Journal, Generate, Audit}
use Rattle.rtmfp_words.specs.declared.command_line.CommandLine.{CommandLine}
use Rattle.rtmfp_words.specs.declared.command_line.CommandLine.TheVariants.{Lines, Serve, Meet}
use Rattle.rtmfp_cli.specs.Doing.{journaling, playing, showing}
use Rattle.rtmfp_cli.specs.Script.{ScriptEnds}

-- what is seen of the six objects
pub record Objects : Type 0 where
  pub link : LinkSeen
  pub clock : Option Clock
  pub entropy : EntropySeen
  pub source : SourceSeen
  pub sink : SinkSeen
  pub spawner : SpawnerSeen

abbrev pub objects : LinkSeen → Option Clock → EntropySeen → SourceSeen → SinkSeen → SpawnerSeen →
    Objects
objects link clock entropy source sink spawner = record {
  link = link;
  clock = clock;
  entropy = entropy;
  source = source;
  sink = sink;
  spawner = spawner;
}

-- ---- a node

-- the status of a run of a node
abbrev pub status_of : Served → RunStatus
status_of served.Done = status.Done
status_of served.Memory = status.Memory
status_of served.LinkFault = status.LinkFault
status_of served.SinkFault = status.SinkFault
status_of served.EntropyFault = status.EntropyFault

-- what a node sees of the objects
abbrev pub around : Objects → NodeOutside
around o = node_outside o.link o.clock o.entropy o.sink

-- A node was run, and ended so.
pub record NodeEnds (v : Serving) (result : RunStatus) (before after : NodeOutside) : Type 0 where
  pub how : Served
  pub is : result ≡ status_of how
  pub ends : Ends how v before after
  pub counted : Counted how before after
  pub passed : PassesOn how before after

-- How `serve` ends. There may be no memory to read its words, and then nothing was done.
abbrev pub ServeEnds : Serving → RunStatus → NodeOutside → NodeOutside → Type 0
ServeEnds v result before after = NodeEnds v result before after ⊎
    ((result ≡ status.Memory) × (after ≡ before))

-- ---- commands

-- how a command ends
abbrev pub CommandEnds : CommandLine → RunStatus → Objects → Objects → Type 0
CommandEnds (Lines Show) result before after = ScriptEnds showing result
    (outside before.source before.sink) (outside after.source after.sink)
CommandEnds (Lines Replay) result before after = ScriptEnds playing result
    (outside before.source before.sink) (outside after.source after.sink)
CommandEnds (Lines Journal) result before after = ScriptEnds journaling result
    (outside before.source before.sink) (outside after.source after.sink)
CommandEnds (Lines (Generate seed steps)) result before after =
    GeneratedEnds seed steps result before.sink after.sink
CommandEnds (Lines Audit) result before after = AuditEnds result
    (outside before.source before.sink) (outside after.source after.sink)
CommandEnds (Serve v) result before after = NodeEnds v result (around before) (around after)
CommandEnds (Meet m) result before after = MeetEnds m.port m.turns result
    (sides before.spawner before.sink) (sides after.spawner after.sink)

-- a generated run has no more steps than it may, and a node has a name
abbrev pub Fits : CommandLine → Type 0
Fits (Lines Show) = Unit {0}
Fits (Lines Replay) = Unit {0}
Fits (Lines Journal) = Unit {0}
Fits (Lines (Generate seed steps)) = steps ≤ 100000
Fits (Lines Audit) = Unit {0}
Fits (Serve v) = IsNodeName v.name
Fits (Meet m) = Unit {0}

-- Words are refused: they are faulty. There may be no memory to see it where the first is that of a
-- node.
abbrev pub IsRefused : RunStatus → List (String Global) → Type 0
IsRefused result words = (result ≡ status.BadWords) ⊎
    ((result ≡ status.Memory) × NamesNode words)

-- ---- what a command needs

abbrev pub reads_lines : CommandLine → Bool
reads_lines (Lines Show) = true
reads_lines (Lines Replay) = true
reads_lines (Lines Journal) = true
reads_lines (Lines (Generate seed steps)) = false
reads_lines (Lines Audit) = true
reads_lines (Serve v) = false
reads_lines (Meet m) = false

abbrev pub starts_nodes : CommandLine → Bool
starts_nodes (Meet m) = true
starts_nodes line = false

abbrev pub serves : CommandLine → Bool
serves (Serve v) = true
serves line = false

abbrev pub NeedsNoNetwork : List (String Global) → Type 0
NeedsNoNetwork words = (v : Serving) → IsServe words v → ⊥

abbrev pub NeedsNoSource : List (String Global) → Type 0
NeedsNoSource words = (IsShow words → ⊥) × (IsReplay words → ⊥) × (IsJournal words → ⊥) ×
    (IsAudit words → ⊥)

abbrev pub NeedsNoSpawner : List (String Global) → Type 0
NeedsNoSpawner words = (port turns : ℕ) → IsMeet words port turns → ⊥

-- ---- faults

-- A fault is told only where the count of the object that it names has risen.
abbrev pub HasRisen : RunStatus → Objects → Objects → Type 0
HasRisen status.LinkFault before after = Rose before.link.faults after.link.faults
HasRisen status.SinkFault before after = Rose before.sink.faults after.sink.faults
HasRisen status.SourceFault before after = Rose before.source.faults after.source.faults
HasRisen status.EntropyFault before after = Rose before.entropy.faults after.entropy.faults
HasRisen status.SpawnFault before after = Rose before.spawner.faults after.spawner.faults
HasRisen other before after = Unit {0}
