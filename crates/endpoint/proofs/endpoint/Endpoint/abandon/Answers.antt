use Rattle.std.proofs.Common.{refl}
use Rattle.endpoint.specs.declared.call.Answered.TheVariants as told
use Rattle.endpoint_model.specs.FlowCall.{Abandon}
use Rattle.endpoint.proofs.Extending.{on_flows, always, flow_stands, seen}
use Rattle.endpoint.proofs.Reaching.{reached_more}
use Rattle.endpoint.proofs.endpoint.Endpoint.abandon.Goals as goal

pub returns-clause-stands : goal.returns-clause-stands
returns-clause-stands c =
    seen _ _ _ _ c.self.view_is (
    flow_stands (λ _. told.Done) c.self.inside.end c.abandon.new.end c.args.near (Abandon c.args.flow c.args.seq) c.abandon.result c.args.out.now c.abandon.new.out (λ x. refl)
    (on_flows (λ _. Unit {0}) (λ _. told.Done) c.self.inside.end c.abandon.new.end 0 c.args.near (Abandon c.args.flow c.args.seq) c.abandon.result c.args.out.now c.abandon.new.out
    (λ x e. (refl, tt)) (always c.abandon.result) c.abandon.ensures.ok c.abandon.ensures.refused c.abandon.ensures.memory c.abandon.ensures.err))

pub invariant_of-self : goal.invariant_of-self
invariant_of-self c =
    reached_more c.self.inside.end c.abandon.new.end _ c.self.invariant (
    flow_stands (λ _. told.Done) c.self.inside.end c.abandon.new.end c.args.near (Abandon c.args.flow c.args.seq) c.abandon.result c.args.out.now c.abandon.new.out (λ x. refl)
    (on_flows (λ _. Unit {0}) (λ _. told.Done) c.self.inside.end c.abandon.new.end 0 c.args.near (Abandon c.args.flow c.args.seq) c.abandon.result c.args.out.now c.abandon.new.out
    (λ x e. (refl, tt)) (always c.abandon.result) c.abandon.ensures.ok c.abandon.ensures.refused c.abandon.ensures.memory c.abandon.ensures.err))
    tt
