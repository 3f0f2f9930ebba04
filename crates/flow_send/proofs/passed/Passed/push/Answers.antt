use Rattle.std.proofs.Common.{List, ℕ, sym, subst}
use Rattle.flow_send.specs.Passed.{ArePassed, Known}
use Rattle.flow_send.proofs.Passing.{passed_push}
use Rattle.flow_send.proofs.passed.Passed.push.Goals as goal

pub returns-clause-counts : goal.returns-clause-counts
returns-clause-counts c rows h =
    subst (λ (ks : List ℕ). ArePassed ks rows) (sym c.push_back_reserved.ensures.items) (passed_push c.self.inside.counts.items rows (subst (λ (p : Known). ArePassed p.counts rows) (sym c.self.view_is) h))
