use Rattle.std.proofs.Common.{List, ap, sym, ◌∙◌, arith}
use Rattle.flow_recv.specs.declared.spans.Span.{Span}
use Rattle.flow_recv.specs.Above.{spans_of, last_from}
use Rattle.flow_recv.proofs.Mapped.{found_from, none_from}
use Rattle.flow_recv.proofs.Spots.{searched}
use Rattle.flow_recv.proofs.above.Above.last_from.Goals as goal

pub returns-in-Some : goal.returns-in-Some
returns-in-Some c =
    let i = c.self.inside in
    let f = c.in-Some.ensures in
    let e = sym (c.range.ensures.between tt) ∙ f.steps in
    sym (found_from c.min-key.result i.map.entries c.next_back.new.self c.in-Some.first.now c.in-Some.last.now e)
    ∙ (searched c.args.number c.min-key.result (spans_of i.map.entries) c.self.invariant (omega (arith, c.min-key.ensures, c.from.ensures)) ∙ ap (λ (ss : List Span). last_from c.args.number ss) c.self.view_is)

pub returns-in-None : goal.returns-in-None
returns-in-None c =
    let i = c.self.inside in
    let f = c.in-None.ensures in
    let e = sym (c.range.ensures.between tt) ∙ f.steps.0 in
    sym (none_from c.min-key.result i.map.entries e)
    ∙ (searched c.args.number c.min-key.result (spans_of i.map.entries) c.self.invariant (omega (arith, c.min-key.ensures, c.from.ensures)) ∙ ap (λ (ss : List Span). last_from c.args.number ss) c.self.view_is)
