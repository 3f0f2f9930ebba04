use Rattle.std.proofs.Common.{ℕ, Option, ap, ◌∙◌}
use Rattle.std.specs.Option.{is_some}
use Rattle.rtmfp_data_chunks.specs.Runs.{is_whole}
use Rattle.flow_recv.specs.Receiver.{first_of}
use Rattle.flow_recv.proofs.Wholes.{some_first}
use Rattle.flow_recv.proofs.held.HeldRuns.any_whole.Goals as goal

pub returns : goal.returns
returns c = c.is_some.ensures ∙ (ap (λ (o : Option ℕ). is_some o) c.first_whole.ensures ∙ some_first (first_of is_whole c.args.self.now))
