use Rattle.std.proofs.Common.{sym, arith}
use Rattle.rendezvous_world.proofs.Ends.{state_there, no_state}
use Rattle.rendezvous_world.proofs.world.endpoint_at.Goals as goal

pub returns-then-end-ends : goal.returns-then-end-ends
returns-then-end-ends c = sym (no_state c.args.ends.now c.args.end (omega (arith, c.if-end-ends.true)))

pub returns : goal.returns
returns c = sym (state_there c.args.ends.now c.args.end c.index-ends-end.result (omega (arith, c.if-end-ends.false)))
