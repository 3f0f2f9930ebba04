use Rattle.std.proofs.Common.{ℕ, List, sym, subst, ap, ◌∙◌}
use Rattle.flow_recv.specs.declared.spans.Span.{Span}
use Rattle.flow_recv.specs.Above.{AllBegin, spans_of, end_of, without}
use Rattle.flow_recv.proofs.Mapped.{looked_up, removed}
use Rattle.flow_recv.proofs.Spots.{begins_without}
use Rattle.flow_recv.proofs.above.Above.remove.Goals as goal

pub invariant_of-self : goal.invariant_of-self
invariant_of-self c =
    let es = c.self.inside.map.entries in
    let e = ap (λ (fs : List (ℕ × ℕ)). spans_of fs) c.remove.ensures.entries ∙ removed c.args.first es in
    subst AllBegin (sym e) (begins_without c.args.first (spans_of es) c.self.invariant)

pub returns-clause-end : goal.returns-clause-end
returns-clause-end c = c.remove.ensures.value ∙ (looked_up c.args.first c.self.inside.map.entries ∙ ap (λ (ss : List Span). end_of c.args.first ss) c.self.view_is)

pub returns-clause-rest : goal.returns-clause-rest
returns-clause-rest c =
    ap (λ (es : List (ℕ × ℕ)). spans_of es) c.remove.ensures.entries ∙ (removed c.args.first c.self.inside.map.entries ∙ ap (λ (ss : List Span). without c.args.first ss) c.self.view_is)
