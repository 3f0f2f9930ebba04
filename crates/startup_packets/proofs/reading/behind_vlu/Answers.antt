use Rattle.std.proofs.Common.{arith}
use Rattle.startup_packets.proofs.Offsets.{nothing_behind}
use Rattle.startup_packets.proofs.reading.behind_vlu.Goals as goal

pub returns-then-at-payload-clause-value : goal.returns-then-at-payload-clause-value
returns-then-at-payload-clause-value c = nothing_behind c.args.payload.now c.args.at (omega (arith, c.if-at-payload.true))
