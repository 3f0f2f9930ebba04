use Rattle.std.proofs.Common.{◌≡◌, [], ◌∷◌, refl}
use Rattle.endpoint.specs.declared.call.Answered.TheVariants as told
use Rattle.endpoint_model.specs.declared.entry.Entry.TheVariants as entry
use Rattle.endpoint_model.specs.FlowCall.{Queue}
use Rattle.endpoint_model.specs.OnFlows.{flow_called}
use Rattle.endpoint.proofs.Extending.{on_flows, flow_stands, seen}
use Rattle.endpoint.proofs.Reaching.{reached_more}
use Rattle.endpoint.proofs.endpoint.Endpoint.queue.Goals as goal

pub returns-clause-stands : goal.returns-clause-stands
returns-clause-stands c =
    seen _ _ _ _ c.self.view_is (
    flow_stands (λ seq. told.Queued seq) c.self.inside.end c.queue.new.end c.args.near (Queue c.args.flow c.args.message.now c.args.options) c.queue.result c.args.out.now c.queue.new.out (λ x. refl)
    (on_flows (λ seq. (flow_called c.self.inside.end c.args.near (Queue c.args.flow c.args.message.now c.args.options)).entries ≡ entry.Queued c.args.near c.args.flow seq c.args.message.now ∷ []) (λ seq. told.Queued seq) c.self.inside.end c.queue.new.end 0 c.args.near (Queue c.args.flow c.args.message.now c.args.options) c.queue.result c.args.out.now c.queue.new.out
    (λ x e. (refl, e)) c.queue.ensures.number c.queue.ensures.ok c.queue.ensures.refused c.queue.ensures.memory c.queue.ensures.err))

pub invariant_of-self : goal.invariant_of-self
invariant_of-self c =
    reached_more c.self.inside.end c.queue.new.end _ c.self.invariant (
    flow_stands (λ seq. told.Queued seq) c.self.inside.end c.queue.new.end c.args.near (Queue c.args.flow c.args.message.now c.args.options) c.queue.result c.args.out.now c.queue.new.out (λ x. refl)
    (on_flows (λ seq. (flow_called c.self.inside.end c.args.near (Queue c.args.flow c.args.message.now c.args.options)).entries ≡ entry.Queued c.args.near c.args.flow seq c.args.message.now ∷ []) (λ seq. told.Queued seq) c.self.inside.end c.queue.new.end 0 c.args.near (Queue c.args.flow c.args.message.now c.args.options) c.queue.result c.args.out.now c.queue.new.out
    (λ x e. (refl, e)) c.queue.ensures.number c.queue.ensures.ok c.queue.ensures.refused c.queue.ensures.memory c.queue.ensures.err))
    tt
