use Rattle.std.proofs.Common.{◌≡◌, Option, Some, None, IfSome, ap, sym, refl, ◌∙◌, rules}
use Rattle.rtmfp_c.specs.declared.node.Node.{Node}
use Rattle.rtmfp_c.specs.Handles.{end_in}
use Rattle.rtmfp_c.proofs.outbox.rtmfp_clear.Goals as goal

always : {P : Type 0} (o : Option Node) → P → IfSome o (λ _. P)
always None p = tt
always (Some x) p = p

pub returns-clause-cleared : goal.returns-clause-cleared
returns-clause-cleared c =
    let was : c.deref_mut.result.now ≡ c.in-Some.node.value = c.deref_mut.ensures.value in
    let after : Node = record c.deref_mut.result.now { out = c.clear.new.self } in
    let is : end_in c.put.new.handle ≡ Some after = search rules in
    always (end_in c.args.handle.now) (
      refl,
      record {
        before = c.deref_mut.result.now;
        after = after;
        held = c.in-Some.ensures.some ∙ ap (λ n. Some n) (sym was);
        holds = is;
        goes = record { end_is = refl; entries = c.clear.ensures.entries };
      },
    )
