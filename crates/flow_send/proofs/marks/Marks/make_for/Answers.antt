use Rattle.std.proofs.Common.{◌≡◌, ◌∙◌, ◌%◌, ◌/◌, List, Bool, false, get_or, length, ap, arith}
use Rattle.std.proofs.lemmas.List.{length-replicate}
use Rattle.flow_send.specs.Marks.{Marked, marked_at}
use Rattle.flow_send.proofs.Marking.{made, same_all}
use Rattle.flow_send.proofs.marks.Marks.make_for.Goals as goal

pub returns : goal.returns
returns c = λ b.
    let i = c.self.inside in
    let none : length i.places.items ≡ 0 = omega (arith, c.if-len-gt0.false, c.len.ensures, i.places.ok) in
    made i.all i.places.items c.in_ok-self-inside.field-0.items (b % 2056) none c.in_ok-self-inside.ensures ∙ ap (λ (m : Marked). marked_at m b) c.self.view_is

pub invariant_of-self : goal.invariant_of-self
invariant_of-self c = (
  λ some. ap length c.in_ok-self-inside.ensures ∙ length-replicate 2056 false,
  λ some. ap length c.in_ok-groups.ensures ∙ length-replicate 65 false,
  λ i lt e. ap (λ (xs : List Bool). get_or xs i false) c.in_ok-self-inside.ensures ∙ same_all 2056 i,
)
