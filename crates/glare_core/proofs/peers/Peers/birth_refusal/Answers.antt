use Rattle.std.proofs.Common.{rules}
use Rattle.glare_core.proofs.peers.Peers.birth_refusal.Goals as goal

pub returns-in-Some : goal.returns-in-Some
returns-in-Some c = search rules
