use Rattle.std.proofs.Common.{◌≡◌, None, is_some, subst, ap}
use Rattle.startup.specs.Attempts.{lowest}
use Rattle.startup.specs.Sought.{fits, IsChosenWith}
use Rattle.startup.specs.State.{Attempts}
use Rattle.startup.specs.Table.{Table}
use Rattle.startup.proofs.Walked.{none_chosen, found_chosen}
use Rattle.startup.proofs.table.AttemptTable.find.Goals as goal

pub index-requires : goal.index-requires
index-requires c = ap is_some c.in-Some.ensures.some.stands

pub returns-in-Some : goal.returns-in-Some
returns-in-Some c =
    let i = c.self.inside in
    subst (λ (a : Attempts). IsChosenWith (lowest (fits c.args.sought.now) a) a c.found_in.result.near c.found_in.result.attempt.now) (ap (λ (t : Table). t.attempts) c.self.view_is)
    (found_chosen (fits c.args.sought.now) i.rows i.keys.keys c.self.invariant.names c.in-Some.slot c.index.result.now c.index.ensures c.in-Some.ensures.some _ _ c.found_in.ensures.near c.found_in.ensures.attempt)

pub returns-in-None : goal.returns-in-None
returns-in-None c =
    let i = c.self.inside in
    subst (λ (a : Attempts). lowest (fits c.args.sought.now) a ≡ None) (ap (λ (t : Table). t.attempts) c.self.view_is)
    (none_chosen (fits c.args.sought.now) i.rows i.keys.keys c.self.invariant.names c.in-None.ensures.none)
