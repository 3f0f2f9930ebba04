use Rattle.std.proofs.Common.{map, string_bytes}
use Rattle.rtmfp_host.proofs.Numbering.{begins}
use Rattle.rtmfp_host.proofs.memory_spawner.MemorySpawnerSpawner.start.Goals as goal

pub returns-clause-call : goal.returns-clause-call
returns-clause-call c = begins c.args.self.now.whole c.args.self.now.calls.items _ (map string_bytes c.args.words.now) c.args.self.now.started c.args.self.now.numbered c.note_start-2.ensures.calls
