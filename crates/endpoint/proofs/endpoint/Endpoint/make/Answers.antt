use Rattle.std.proofs.Common.{◌≡◌, ℕ, [], ◌∷◌, refl}
use Rattle.endpoint_model.specs.declared.entry.Entry.TheVariants as entry
use Rattle.endpoint_model.specs.FlowCall.{Queue}
use Rattle.endpoint_model.specs.OnFlows.{flow_called}
use Rattle.endpoint.specs.declared.call.Answered.TheVariants as told
use Rattle.endpoint.proofs.Extending.{opened, searched, closed, on_flows}
use Rattle.endpoint.proofs.endpoint.Endpoint.make.Goals as goal

pub returns-in-Open : goal.returns-in-Open
returns-in-Open c =
    rw (c.in-Open.is, c.began.ensures)
    (opened c.args.self.now c.open.new.self c.args.moment c.in-Open.print.now c.in-Open.candidates.now c.args.draws.now c.open.result c.args.out.now c.open.new.out
    c.open.ensures.number c.open.ensures.ok c.open.ensures.refused c.open.ensures.memory c.open.ensures.err)

pub returns-in-Seek : goal.returns-in-Seek
returns-in-Seek c =
    rw (c.in-Seek.is, c.sought.ensures)
    (searched c.args.self.now c.seek.new.self c.args.moment c.in-Seek.name.now c.in-Seek.candidates.now c.args.draws.now c.seek.result c.args.out.now c.seek.new.out
    c.seek.ensures.near c.seek.ensures.ok c.seek.ensures.refused c.seek.ensures.memory c.seek.ensures.err)

pub returns-in-Queue : goal.returns-in-Queue
returns-in-Queue c =
    rw (c.in-Queue.is, c.queued.ensures)
    (on_flows (λ (seq : ℕ). (flow_called c.args.self.now c.in-Queue.near (Queue c.in-Queue.flow c.in-Queue.message.now c.in-Queue.options)).entries ≡ entry.Queued c.in-Queue.near c.in-Queue.flow seq c.in-Queue.message.now ∷ []) (λ seq. told.Queued seq)
    c.args.self.now c.queue.new.self c.args.moment c.in-Queue.near (Queue c.in-Queue.flow c.in-Queue.message.now c.in-Queue.options) c.queue.result c.args.out.now c.queue.new.out (λ x e. (refl, e))
    c.queue.ensures.number c.queue.ensures.ok c.queue.ensures.refused c.queue.ensures.memory c.queue.ensures.err)

pub returns-in-Close : goal.returns-in-Close
returns-in-Close c =
    rw (c.in-Close.is, c.done-in-Close.ensures)
    (closed c.args.self.now c.close.new.self c.args.moment c.in-Close.near c.close.result c.args.out.now c.close.new.out
    c.close.ensures.ok c.close.ensures.refused c.close.ensures.memory c.close.ensures.err)
