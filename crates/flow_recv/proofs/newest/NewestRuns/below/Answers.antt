use Rattle.std.proofs.Common.{nat_lt, ap}
use Rattle.flow_recv.proofs.Among.{last_among}
use Rattle.flow_recv.proofs.newest.NewestRuns.below.Goals as goal

pub returns-in-Some : goal.returns-in-Some
returns-in-Some c =
    let i = c.self.inside in
    let n = c.args.number in
    last_among n i.newest c.in-Some.run' i.older c.args.self.now c.later_of.result c.below-older.result _ _ c.in-Some.is c.self.view_is c.self.invariant c.below-older.ensures
    (ap (λ j. nat_lt j n) c.first.ensures) c.first-in-Some.ensures c.later_of.ensures
