use Rattle.std.proofs.Common.{arith}
use Rattle.std.proofs.lemmas.Grind.{common_steps}
use Rattle.rtmfp_packet.proofs.Walking.{body_of-first}
use Rattle.rtmfp_packet.proofs.chunks.Chunks.next_raw.Goals as goal

pub returns-clause-some : goal.returns-clause-some
returns-clause-some c =
    let b = c.args.self.now.rest.now in
    let first = body_of-first c.from-len.result b (omega arith) (grind (arith, common_steps)) (grind (arith, common_steps)) in
    grind (arith, common_steps, first)
