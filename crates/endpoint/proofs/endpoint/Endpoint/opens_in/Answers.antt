use Rattle.std.proofs.Common.{ap, ◌∙◌}
use Rattle.endpoint_model.specs.State.{State}
use Rattle.endpoint_laws.specs.OpensIn.{opens_in}
use Rattle.endpoint_laws.proofs.Opened.{opens_by_the_log}
use Rattle.endpoint.proofs.endpoint.Endpoint.opens_in.Goals as goal

pub returns-clause-log : goal.returns-clause-log
returns-clause-log c = opens_by_the_log c.args.self.now c.args.datagram.now c.find_context.result (c.find_context.ensures ∙ ap (λ (s : State). opens_in s c.args.datagram.now) c.self.view_is)
