use Rattle.std.proofs.Common.{nat_le, ap}
use Rattle.flow_recv.proofs.Among.{first_among}
use Rattle.flow_recv.proofs.newest.NewestRuns.from.Goals as goal

pub returns-in-Some : goal.returns-in-Some
returns-in-Some c =
    let i = c.self.inside in
    let n = c.args.number in
    first_among n i.newest c.in-Some.run' i.older c.args.self.now c.earlier_of.result c.from-older.result _ _ c.in-Some.is c.self.view_is c.self.invariant c.from-older.ensures
    (ap (λ j. nat_le n j) c.first.ensures) c.first-in-Some.ensures c.earlier_of.ensures
