use Rattle.std.proofs.Common.{◌≡◌, Some, ap, sym, ◌∙◌, rules}
use Rattle.rtmfp_c.specs.Handles.{end_in}
use Rattle.rtmfp_c.proofs.making.answer.Goals as goal

pub returns : goal.returns
returns c =
    let was : c.deref_mut.result.now ≡ c.in-Some.node.value = c.deref_mut.ensures.value in
    let is : end_in c.put.new.handle ≡ Some c.call-answered.new.self = search rules in
    record {
      before = c.deref_mut.result.now;
      after = c.call-answered.new.self;
      held = c.in-Some.ensures.some ∙ ap (λ n. Some n) (sym was);
      holds = is;
      goes = c.call-answered.ensures;
    }
