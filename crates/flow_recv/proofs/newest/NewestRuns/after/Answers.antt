use Rattle.std.proofs.Common.{◌+◌, nat_le, ap, ◌∙◌}
use Rattle.flow_recv.proofs.Among.{first_among, lt_le}
use Rattle.flow_recv.proofs.newest.NewestRuns.after.Goals as goal

pub returns-in-Some : goal.returns-in-Some
returns-in-Some c =
    let i = c.self.inside in
    let n = c.args.first + 1 in
    first_among n i.newest c.in-Some.run' i.older c.args.self.now c.earlier_of.result c.after-older.result _ _ c.in-Some.is c.self.view_is c.self.invariant c.after-older.ensures
    (lt_le c.args.first c.first.result ∙ ap (λ j. nat_le n j) c.first.ensures) c.first-in-Some.ensures c.earlier_of.ensures
