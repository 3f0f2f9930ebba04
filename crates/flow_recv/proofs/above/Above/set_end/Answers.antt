use Rattle.std.proofs.Common.{ℕ, List, sym, subst, ap, ◌∙◌}
use Rattle.std.specs.BTreeMap.{BTreeMap}
use Rattle.flow_recv.specs.declared.spans.Span.{Span}
use Rattle.flow_recv.specs.Above.{AllBegin, spans_of, with_end}
use Rattle.flow_recv.proofs.Mapped.{looked_up, set_is}
use Rattle.flow_recv.proofs.Spots.{begins_end, end_none}
use Rattle.flow_recv.proofs.above.Above.set_end.Goals as goal

pub returns-in_default : goal.returns-in_default
returns-in_default c =
    let es = c.self.inside.map.entries in
    let none = sym (looked_up c.args.first es) ∙ sym c.in_default.ensures.value in
    ap (λ (m : BTreeMap ℕ ℕ). spans_of m.entries) c.get_mut.follows.holds-at-none
    ∙ (sym (end_none c.args.first c.args.last (spans_of es) none) ∙ ap (λ (ss : List Span). with_end c.args.first c.args.last ss) c.self.view_is)

pub invariant_of-self-2 : goal.invariant_of-self-2
invariant_of-self-2 c =
    let es = c.self.inside.map.entries in
    let e = ap (λ (fs : List (ℕ × ℕ)). spans_of fs) (c.get_mut.follows.holds c.args.last).0 ∙ set_is c.args.first c.args.last es in
    subst AllBegin (sym e) (begins_end c.args.first c.args.last (spans_of es) c.self.invariant)

pub returns : goal.returns
returns c =
    ap (λ (fs : List (ℕ × ℕ)). spans_of fs) (c.get_mut.follows.holds c.args.last).0
    ∙ (set_is c.args.first c.args.last c.self.inside.map.entries ∙ ap (λ (ss : List Span). with_end c.args.first c.args.last ss) c.self.view_is)
