use Rattle.std.proofs.Common.{◌≡◌, [], ◌∷◌, refl}
use Rattle.endpoint.specs.declared.call.Answered.TheVariants as told
use Rattle.endpoint_model.specs.declared.entry.Entry.TheVariants as entry
use Rattle.endpoint_model.specs.FlowCall.{OpenFlow}
use Rattle.endpoint_model.specs.OnFlows.{flow_called}
use Rattle.endpoint.proofs.Extending.{on_flows, flow_stands, seen}
use Rattle.endpoint.proofs.Reaching.{reached_more}
use Rattle.endpoint.proofs.endpoint.Endpoint.open_flow.Goals as goal

pub returns-clause-stands : goal.returns-clause-stands
returns-clause-stands c =
    seen _ _ _ _ c.self.view_is (
    flow_stands (λ flow. told.FlowOpened flow) c.self.inside.end c.open_flow.new.end c.args.near (OpenFlow c.args.priority c.args.metadata.now c.args.answers) c.open_flow.result c.args.out.now c.open_flow.new.out (λ x. refl)
    (on_flows (λ flow. (flow_called c.self.inside.end c.args.near (OpenFlow c.args.priority c.args.metadata.now c.args.answers)).entries ≡ entry.FlowOpened c.args.near flow ∷ []) (λ flow. told.FlowOpened flow) c.self.inside.end c.open_flow.new.end 0 c.args.near (OpenFlow c.args.priority c.args.metadata.now c.args.answers) c.open_flow.result c.args.out.now c.open_flow.new.out
    (λ x e. (refl, e)) c.open_flow.ensures.number c.open_flow.ensures.ok c.open_flow.ensures.refused c.open_flow.ensures.memory c.open_flow.ensures.err))

pub invariant_of-self : goal.invariant_of-self
invariant_of-self c =
    reached_more c.self.inside.end c.open_flow.new.end _ c.self.invariant (
    flow_stands (λ flow. told.FlowOpened flow) c.self.inside.end c.open_flow.new.end c.args.near (OpenFlow c.args.priority c.args.metadata.now c.args.answers) c.open_flow.result c.args.out.now c.open_flow.new.out (λ x. refl)
    (on_flows (λ flow. (flow_called c.self.inside.end c.args.near (OpenFlow c.args.priority c.args.metadata.now c.args.answers)).entries ≡ entry.FlowOpened c.args.near flow ∷ []) (λ flow. told.FlowOpened flow) c.self.inside.end c.open_flow.new.end 0 c.args.near (OpenFlow c.args.priority c.args.metadata.now c.args.answers) c.open_flow.result c.args.out.now c.open_flow.new.out
    (λ x e. (refl, e)) c.open_flow.ensures.number c.open_flow.ensures.ok c.open_flow.ensures.refused c.open_flow.ensures.memory c.open_flow.ensures.err))
    tt
