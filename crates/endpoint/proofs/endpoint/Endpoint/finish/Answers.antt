use Rattle.std.proofs.Common.{refl}
use Rattle.endpoint.specs.declared.call.Answered.TheVariants as told
use Rattle.endpoint_model.specs.FlowCall.{Finish}
use Rattle.endpoint.proofs.Extending.{on_flows, always, flow_stands, seen}
use Rattle.endpoint.proofs.Reaching.{reached_more}
use Rattle.endpoint.proofs.endpoint.Endpoint.finish.Goals as goal

pub returns-clause-stands : goal.returns-clause-stands
returns-clause-stands c =
    seen _ _ _ _ c.self.view_is (
    flow_stands (λ _. told.Done) c.self.inside.end c.finish.new.end c.args.near (Finish c.args.flow) c.finish.result c.args.out.now c.finish.new.out (λ x. refl)
    (on_flows (λ _. Unit {0}) (λ _. told.Done) c.self.inside.end c.finish.new.end 0 c.args.near (Finish c.args.flow) c.finish.result c.args.out.now c.finish.new.out
    (λ x e. (refl, tt)) (always c.finish.result) c.finish.ensures.ok c.finish.ensures.refused c.finish.ensures.memory c.finish.ensures.err))

pub invariant_of-self : goal.invariant_of-self
invariant_of-self c =
    reached_more c.self.inside.end c.finish.new.end _ c.self.invariant (
    flow_stands (λ _. told.Done) c.self.inside.end c.finish.new.end c.args.near (Finish c.args.flow) c.finish.result c.args.out.now c.finish.new.out (λ x. refl)
    (on_flows (λ _. Unit {0}) (λ _. told.Done) c.self.inside.end c.finish.new.end 0 c.args.near (Finish c.args.flow) c.finish.result c.args.out.now c.finish.new.out
    (λ x e. (refl, tt)) (always c.finish.result) c.finish.ensures.ok c.finish.ensures.refused c.finish.ensures.memory c.finish.ensures.err))
    tt
