use Rattle.std.proofs.Common.{ap, ◌∙◌}
use Rattle.session_flows.specs.Keeping.{FlowsState, may_be_due}
use Rattle.session_flows.proofs.Idles.{any_busy_is}
use Rattle.session_flows.proofs.flows.Flows.may_be_due.Goals as goal

pub returns : goal.returns
returns c = any_busy_is c.self.inside.sending.items c.self.inside.kept c.any_busy.result c.self.invariant.kept c.any_busy.ensures ∙ ap (λ (s : FlowsState). may_be_due s) c.self.view_is
