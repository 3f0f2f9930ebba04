use Rattle.std.proofs.Common.{ℕ, List, sym, subst, ap, ◌∙◌, arith}
use Rattle.flow_recv.specs.declared.spans.Span.{Span}
use Rattle.flow_recv.specs.Above.{AllBegin, spans_of, with_number}
use Rattle.flow_recv.proofs.Mapped.{put_in}
use Rattle.flow_recv.proofs.Spots.{begins_number}
use Rattle.flow_recv.proofs.above.Above.insert.Goals as goal

pub invariant_of-self-2 : goal.invariant_of-self-2
invariant_of-self-2 c =
    let n = c.args.number in
    let es = c.self.inside.map.entries in
    let e = ap (λ (fs : List (ℕ × ℕ)). spans_of fs) c.in_ok-insert.ensures.entries ∙ put_in n es in
    subst AllBegin (sym e) (begins_number n (spans_of es) (omega arith) c.self.invariant)

pub returns-clause-inserted : goal.returns-clause-inserted
returns-clause-inserted c =
    let n = c.args.number in
    ap (λ (fs : List (ℕ × ℕ)). spans_of fs) c.in_ok-insert.ensures.entries ∙ (put_in n c.self.inside.map.entries ∙ ap (λ (ss : List Span). with_number n ss) c.self.view_is)
