use Rattle.std.proofs.Common.{rules}
use Rattle.rtmfp_host.proofs.memory_spawner.MemorySpawnerSpawner.wait.Goals as goal

pub returns-in-Ok-clause-gives : goal.returns-in-Ok-clause-gives
returns-in-Ok-clause-gives c = search rules
