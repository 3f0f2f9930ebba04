-- How a run of `meet` ends, what it has called and written then, and what has failed.
use Rattle.std.specs.Prelude.{◌≡◌, ◌≢◌, ℕ, ℤ, pos, ◌⊎◌, List, [], ◌∷◌, ◌++◌, map, take, Option, Some, None}
use Rattle.std.specs.List.{flat_map}
use Rattle.rtmfp_host.specs.Faults.{Rose}
use Rattle.rtmfp_host.specs.Seen.{SinkSeen}
use Rattle.rtmfp_host.specs.Spawning.{SpawnerSeen}
use Rattle.rtmfp_host.specs.Writing.{Appends}
use Rattle.rtmfp_host.specs.declared.spawner.SpawnCall.{SpawnCall}
use Rattle.rtmfp_host.specs.declared.spawner.SpawnCall.TheVariants.{Start, Wait}
use Rattle.rtmfp_lines.specs.declared.status.Status.{Status as RunStatus}
use Rattle.rtmfp_lines.specs.declared.status.Status.TheVariants.{Done, Memory, SinkFault, SpawnFault, ChildFailed}
use Rattle.rtmfp_meet.specs.declared.node.Node.{Node}
use Rattle.rtmfp_meet.specs.declared.node.Node.TheVariants.{Introducer, Answerer, Caller}
use Rattle.rtmfp_meet.specs.Nodes.{marked, words_of}

-- what is seen of the spawner and of the sink
pub record Sides : Type 0 where
  pub spawner : SpawnerSeen
  pub sink : SinkSeen

abbrev pub sides : SpawnerSeen → SinkSeen → Sides
sides spawner sink = record { spawner = spawner; sink = sink }

-- ---- the steps of a run

pub data Step : Type 0 where
  Starting : Node → Step
  Waiting : Node → Step

-- Each node is started and then each is waited for, in this order.
abbrev pub steps : List Step
steps = Starting Introducer ∷ Starting Answerer ∷ Starting Caller ∷
    Waiting Introducer ∷ Waiting Answerer ∷ Waiting Caller ∷ []

-- the call of a step that goes well: it gives the node's child, or the child's end, which is with
-- status 0 and this text
abbrev pub call_at : ℕ → ℕ → (Node → ℕ) → (Node → List ℕ) → Step → SpawnCall
call_at port turns child text (Starting node) = Start (words_of node port turns) (Some (child node))
call_at port turns child text (Waiting node) = Wait (child node) (pos 0) (text node)

-- what is written at it: the lines of that text, with the node's letter
abbrev pub written_at : (Node → List ℕ) → Step → List ℕ
written_at text (Starting node) = []
written_at text (Waiting node) = marked node (text node)

-- ---- how it ends

-- How the run ends with this status at a step, of a node whose child has this number and this text:
-- the calls of this step, and what was written at it. A start that gave no child is told as one
-- without a child, and a wait that gave no end isn't told.
abbrev pub EndsAt : ℕ → ℕ → Step → ℕ → List ℕ → RunStatus → List SpawnCall → List ℕ → Type 0
EndsAt port turns (Starting node) child text Memory calls part =
    ((calls ≡ []) ⊎ (calls ≡ Start (words_of node port turns) None ∷ [])) × (part ≡ [])
EndsAt port turns (Starting node) child text SpawnFault calls part =
    (calls ≡ Start (words_of node port turns) None ∷ []) × (part ≡ [])
EndsAt port turns (Waiting node) child text Memory calls part = (calls ≡ []) × (part ≡ [])
EndsAt port turns (Waiting node) child text SpawnFault calls part = (calls ≡ []) × (part ≡ [])
EndsAt port turns (Waiting node) child text (ChildFailed c) calls part =
    (c ≢ pos 0) × (calls ≡ Wait child c text ∷ []) × (part ≡ [])
EndsAt port turns (Waiting node) child text SinkFault calls part =
    (calls ≡ Wait child (pos 0) text ∷ []) × ((k : ℕ) × (part ≡ take k (marked node text)))
EndsAt port turns step child text other calls part = ⊥

abbrev pub node_of : Step → Node
node_of (Starting node) = node
node_of (Waiting node) = node

-- The run ended behind these steps: they were all, or the next one ended it.
abbrev pub EndsBehind : ℕ → ℕ → (Node → ℕ) → (Node → List ℕ) → List Step → RunStatus →
    List SpawnCall → List ℕ → Type 0
EndsBehind port turns child text done Done calls part = (done ≡ steps) × (calls ≡ []) × (part ≡ [])
EndsBehind port turns child text done status calls part =
    (next : Step) × (more : List Step) × (steps ≡ done ++ next ∷ more) ×
    EndsAt port turns next (child (node_of next)) (text (node_of next)) status calls part

-- these calls were added at the end, as long as they are told
abbrev pub Adds : Option (List SpawnCall) → Option (List SpawnCall) → List SpawnCall → Type 0
Adds before None calls = Unit {0}
Adds None (Some now) calls = ⊥
Adds (Some before) (Some now) calls = now ≡ before ++ calls

-- The steps that went well, one after another, and where the run ended: each call that was made,
-- and each byte that was written.
pub record Course (port turns : ℕ) (status : RunStatus) (before after : Sides) : Type 0 where
  pub child : Node → ℕ
  pub text : Node → List ℕ
  pub done : List Step
  pub last : List SpawnCall
  pub part : List ℕ
  pub ends : EndsBehind port turns child text done status last part
  pub calls : Adds before.spawner.calls after.spawner.calls
      (map (call_at port turns child text) done ++ last)
  pub written : Appends before.sink.written after.sink.written
      (flat_map (written_at text) done ++ part)

-- ---- what has failed

-- The sink hasn't failed. It is as before, where nothing was given to it, and else has passed on
-- all that it took.
pub record IsCalm (before after : SinkSeen) : Type 0 where
  pub faults : after.faults ≡ before.faults
  pub passed : (after ≡ before) ⊎ (after.passed ≡ after.written)

-- the one has failed of which the status tells, and no other
abbrev pub Fails : RunStatus → Sides → Sides → Type 0
Fails SpawnFault before after = Rose before.spawner.faults after.spawner.faults ×
    IsCalm before.sink after.sink
Fails SinkFault before after = (after.spawner.faults ≡ before.spawner.faults) ×
    Rose before.sink.faults after.sink.faults
Fails status before after = (after.spawner.faults ≡ before.spawner.faults) ×
    IsCalm before.sink after.sink

-- the status of a child of which the status tells
abbrev pub failed_with : RunStatus → Option ℤ
failed_with (ChildFailed c) = Some c
failed_with status = None

-- ---- the run

pub record MeetEnds (port turns : ℕ) (status : RunStatus) (before after : Sides) : Type 0 where
  -- the first status other than 0 that a wait gave is that of which the status tells
  pub first : after.spawner.status ≡ failed_with status
  pub fails : Fails status before after
  pub course : Course port turns status before after
