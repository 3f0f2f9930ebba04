use Rattle.std.proofs.Common.{◌≡◌, ◌+◌, None, List, sym, subst, arith}
use Rattle.flow_recv.specs.declared.spans.Span.{Span}
use Rattle.flow_recv.specs.Above.{spans_of, end_of, without}
use Rattle.flow_recv.proofs.Spots.{end_beyond, without_beyond}
use Rattle.flow_recv.proofs.above.Above.remove_after.Goals as goal

pub returns-in-None-clause-end : goal.returns-in-None-clause-end
returns-in-None-clause-end c =
    let n = c.args.number in
    sym (subst (λ (ss : List Span). end_of (n + 1) ss ≡ None) c.self.view_is (end_beyond (n + 1) (spans_of c.self.inside.map.entries) c.self.invariant (omega (arith, c.in-None.ensures))))

pub returns-in-None-clause-rest : goal.returns-in-None-clause-rest
returns-in-None-clause-rest c =
    let n = c.args.number in
    sym (subst (λ (ss : List Span). without (n + 1) ss ≡ ss) c.self.view_is (without_beyond (n + 1) (spans_of c.self.inside.map.entries) c.self.invariant (omega (arith, c.in-None.ensures))))
