-- What the spawners in memory hold.
use Rattle.std.specs.Prelude.{◌≡◌, ℕ, ◌+◌, ℤ, List, Option, Some, None, if◌then◌else◌}
use Rattle.rtmfp_host.specs.Plan.{Planned}
use Rattle.rtmfp_host.specs.Spawning.{SpawnerSeen}
use Rattle.rtmfp_host.specs.declared.spawner.SpawnCall.{SpawnCall}
use Rattle.rtmfp_host.specs.declared.spawner.Begun.{Begun}
use Rattle.rtmfp_host.specs.declared.spawner.Begun.TheVariants.{Child, Failed, Memory}
use Rattle.rtmfp_host.specs.declared.spawner.Ran.{Ran}
use Rattle.rtmfp_host.specs.declared.spawner.Ran.TheVariants.{Ended, Failed as NotRan, Memory as NoText}
use Rattle.rtmfp_host.specs.declared.child_end.ChildEnd.{ChildEnd}
use Rattle.rtmfp_host.specs.declared.memory_spawner.MemorySpawner.{MemorySpawner}
use Rattle.rtmfp_host.specs.declared.memory_spawner.FaultySpawner.{FaultySpawner}

-- the starts and waits, as long as they were all kept
abbrev pub spawner_calls : MemorySpawner → Option (List SpawnCall)
spawner_calls m = if m.whole then Some m.calls.items else None

-- how the children end, the first that is started as the first
abbrev pub spawner_ends : MemorySpawner → List ChildEnd
spawner_ends m = m.ends.items

abbrev pub spawner_status : MemorySpawner → Option ℤ
spawner_status m = m.status

-- the number of the next child
abbrev pub next_child : MemorySpawner → ℕ
next_child m = m.started

abbrev pub spawner_seen : MemorySpawner → SpawnerSeen
spawner_seen m = record { calls = spawner_calls m; status = spawner_status m; faults = 0 }

-- a start gives the next number, and the one after it is next then
abbrev pub Numbers : Begun → ℕ → ℕ → Type 0
Numbers (Child number) before now = (number ≡ before) × (now ≡ before + 1)
Numbers Failed before now = ⊥
Numbers Memory before now = now ≡ before

-- a wait gives this end, or finds no memory
abbrev pub Gives : Ran → ChildEnd → Type 0
Gives (Ended status text) end = (status ≡ end.status) × (text ≡ end.text)
Gives NotRan end = ⊥
Gives NoText end = Unit {0}

-- the same of a wait that may fail
abbrev pub GivesUnless : Ran → ChildEnd → Type 0
GivesUnless (Ended status text) end = (status ≡ end.status) × (text ≡ end.text)
GivesUnless NotRan end = Unit {0}
GivesUnless NoText end = Unit {0}

abbrev pub faulty_spawner_calls : FaultySpawner → Option (List SpawnCall)
faulty_spawner_calls m = spawner_calls m.spawner

abbrev pub faulty_spawner_ends : FaultySpawner → List ChildEnd
faulty_spawner_ends m = spawner_ends m.spawner

abbrev pub faulty_spawner_status : FaultySpawner → Option ℤ
faulty_spawner_status m = spawner_status m.spawner

abbrev pub start_plan : FaultySpawner → Planned
start_plan m = m.starts

abbrev pub wait_plan : FaultySpawner → Planned
wait_plan m = m.waits

abbrev pub spawner_faults : FaultySpawner → ℕ
spawner_faults m = m.faults

abbrev pub faulty_spawner_seen : FaultySpawner → SpawnerSeen
faulty_spawner_seen m = record {
  calls = faulty_spawner_calls m;
  status = faulty_spawner_status m;
  faults = spawner_faults m;
}
