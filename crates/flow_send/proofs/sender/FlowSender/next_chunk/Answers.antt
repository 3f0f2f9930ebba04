use Rattle.std.proofs.Common.{ap, sym, ◌∙◌}
use Rattle.flow_send.specs.Choice.{chunk_for}
use Rattle.flow_send.proofs.sender.FlowSender.next_chunk.Goals as goal

pub returns-clause-chunk : goal.returns-clause-chunk
returns-clause-chunk c = c.send.ensures.chunk ∙ ap (chunk_for c.args.self.now.sender) (sym c.in_ok-pick.ensures.picked)
