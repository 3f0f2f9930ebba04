use Rattle.std.proofs.Common.{◌≡◌, List, ℕ, drop, sym, subst, arith}
use Rattle.std.proofs.lemmas.Grind.{common_steps}
use Rattle.flow_send.specs.Rows.{Row}
use Rattle.flow_send.specs.Passed.{ArePassed}
use Rattle.flow_send.specs.Finder.{Finds}
use Rattle.flow_send.specs.declared.finder.Pending.TheVariants.{First, Again}
use Rattle.flow_send.proofs.Passing.{passed_pop}
use Rattle.flow_send.proofs.rows.Rows.pop.Goals as goal

pub invariant_of-self : goal.invariant_of-self
invariant_of-self c =
    let i = c.self.inside in
    let rest : c.pop_front.new.self.items ≡ drop 1 i.rows.items = c.pop_front.ensures.rest in (
      grind (arith, common_steps),
      subst (λ (xs : List Row). ArePassed c.pop.new.self.counts xs) (sym rest) (subst (λ (ks : List ℕ). ArePassed ks (drop 1 i.rows.items)) (sym c.pop.ensures.counts) (passed_pop i.passed.counts i.rows.items c.self.invariant.1)),
      subst (Finds Again c.pop-2.new.self) (sym rest) (c.pop-2.ensures Again i.rows.items c.self.invariant.2),
      subst (Finds First c.pop-3.new.self) (sym rest) (c.pop-3.ensures First i.rows.items c.self.invariant.3),
    )
