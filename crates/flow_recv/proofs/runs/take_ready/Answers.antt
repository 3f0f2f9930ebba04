use Rattle.std.proofs.Common.{Bool, ap, sym, ◌∙◌}
use Rattle.flow_recv.specs.Receiver.{hands, first_of, without_first}
use Rattle.flow_recv.proofs.Ready.{nothing_ready, not_ready_first, ready_first}
use Rattle.flow_recv.proofs.runs.take_ready.Goals as goal

pub returns-in_default-clause-run : goal.returns-in_default-clause-run
returns-in_default-clause-run c = (nothing_ready (hands c.args.arriving c.args.through) c.args.runs.now c.in_default.ensures).0

pub returns-in_default-clause-rest : goal.returns-in_default-clause-rest
returns-in_default-clause-rest c = (nothing_ready (hands c.args.arriving c.args.through) c.args.runs.now c.in_default.ensures).1

pub returns-then-not-is_ready_at-clause-run : goal.returns-then-not-is_ready_at-clause-run
returns-then-not-is_ready_at-clause-run c =
    let n = not_ready_first c.args.through c.in-Some.first c.args.runs.now c.requires.order c.requires.open c.in-Some.ensures (sym c.is_ready_at.ensures ∙ c.if-not-is_ready_at.true) in
    n.0 ∙ ap (λ (a : Bool). first_of (hands a c.args.through) c.args.runs.now) (sym c.if-arriving.false)

pub returns-then-not-is_ready_at-clause-rest : goal.returns-then-not-is_ready_at-clause-rest
returns-then-not-is_ready_at-clause-rest c =
    let n = not_ready_first c.args.through c.in-Some.first c.args.runs.now c.requires.order c.requires.open c.in-Some.ensures (sym c.is_ready_at.ensures ∙ c.if-not-is_ready_at.true) in
    n.1 ∙ ap (λ (a : Bool). without_first (hands a c.args.through) c.args.runs.now) (sym c.if-arriving.false)

pub returns-clause-run : goal.returns-clause-run
returns-clause-run c =
    let r = ready_first c.args.through c.in-Some.first c.args.runs.now c.requires.order c.in-Some.ensures (sym c.is_ready_at.ensures ∙ c.if-not-is_ready_at.false) in
    c.remove.ensures.run ∙ (r.0 ∙ ap (λ (a : Bool). first_of (hands a c.args.through) c.args.runs.now) (sym c.if-arriving.false))

pub returns-clause-rest : goal.returns-clause-rest
returns-clause-rest c =
    let r = ready_first c.args.through c.in-Some.first c.args.runs.now c.requires.order c.in-Some.ensures (sym c.is_ready_at.ensures ∙ c.if-not-is_ready_at.false) in
    c.remove.ensures.rest ∙ (r.1 ∙ ap (λ (a : Bool). without_first (hands a c.args.through) c.args.runs.now) (sym c.if-arriving.false))
