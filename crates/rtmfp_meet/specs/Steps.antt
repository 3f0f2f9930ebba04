-- What single steps of a run do.
use Rattle.std.specs.Prelude.{◌≡◌, ℕ, pos, List, [], ◌∷◌, take, Some, None, Result}
use Rattle.std.specs.declared.result.Result.TheVariants.{Ok, Err}
use Rattle.rtmfp_host.specs.Faults.{Rose}
use Rattle.rtmfp_host.specs.Seen.{SinkSeen}
use Rattle.rtmfp_host.specs.Spawning.{IsStarted, SpawnerSeen}
use Rattle.rtmfp_host.specs.Writing.{Appends}
use Rattle.rtmfp_host.specs.declared.sink.Wrote.{Wrote}
use Rattle.rtmfp_host.specs.declared.sink.Wrote.TheVariants as wrote
use Rattle.rtmfp_host.specs.declared.spawner.SpawnCall.{SpawnCall}
use Rattle.rtmfp_host.specs.declared.spawner.SpawnCall.TheVariants.{Start, Wait}
use Rattle.rtmfp_lines.specs.declared.status.Status.{Status as RunStatus}
use Rattle.rtmfp_lines.specs.declared.status.Status.TheVariants.{Done}
use Rattle.rtmfp_meet.specs.declared.node.Node.{Node}
use Rattle.rtmfp_meet.specs.Meeting.{Adds, EndsAt, Fails, Sides, Step, Starting, Waiting, failed_with, sides}
use Rattle.rtmfp_meet.specs.Nodes.{marked, words_of}

-- a step went well: this call was made and these bytes were written
pub record Goes (call : SpawnCall) (bytes : List ℕ) (before after : Sides) : Type 0 where
  pub first : after.spawner.status ≡ None
  pub fails : Fails Done before after
  pub calls : Adds before.spawner.calls after.spawner.calls (call ∷ [])
  pub written : Appends before.sink.written after.sink.written bytes

-- a step ended the run with this status
pub record Stops (port turns : ℕ) (step : Step) (child : ℕ) (text : List ℕ) (status : RunStatus)
    (before after : Sides) : Type 0 where
  pub last : List SpawnCall
  pub part : List ℕ
  pub ends : EndsAt port turns step child text status last part
  pub first : after.spawner.status ≡ failed_with status
  pub fails : Fails status before after
  pub calls : Adds before.spawner.calls after.spawner.calls last
  pub written : Appends before.sink.written after.sink.written part

-- The start of a node: its child can be waited for, or the run has ended.
abbrev pub Begins : ℕ → ℕ → Node → Result ℕ RunStatus → SpawnerSeen → SpawnerSeen → Type 0
Begins port turns node (Ok child) before after = IsStarted after.calls child ×
    ((sink : SinkSeen) → Goes (Start (words_of node port turns) (Some child)) []
    (sides before sink) (sides after sink))
Begins port turns node (Err status) before after = (sink : SinkSeen) →
    Stops port turns (Starting node) 0 [] status (sides before sink) (sides after sink)

-- The wait for a node's child: it ended with 0 and its lines were written, or the run has ended.
abbrev pub Finishes : Node → ℕ → Result (Unit {0}) RunStatus → Sides → Sides → Type 0
Finishes node child (Ok done) before after =
    (text : List ℕ) × Goes (Wait child (pos 0) text) (marked node text) before after
Finishes node child (Err status) before after = (text : List ℕ) × ((port turns : ℕ) →
    Stops port turns (Waiting node) child text status before after)

-- the bytes were written and passed on, or a first part of them was written
abbrev pub HandsOver : Wrote → List ℕ → SinkSeen → SinkSeen → Type 0
HandsOver wrote.Done bytes before after = Appends before.written after.written bytes ×
    (after.faults ≡ before.faults) × (after.passed ≡ after.written)
HandsOver wrote.Failed bytes before after =
    ((k : ℕ) × Appends before.written after.written (take k bytes)) ×
    Rose before.faults after.faults
