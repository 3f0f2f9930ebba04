use Rattle.std.proofs.Common.{◌≡◌, Some, None, is_some, subst, ap}
use Rattle.startup.specs.Attempts.{lowest}
use Rattle.startup.specs.Due.{is_due}
use Rattle.startup.specs.Sought.{IsChosenWith}
use Rattle.startup.specs.State.{Attempts}
use Rattle.startup.specs.Table.{Table}
use Rattle.startup.proofs.Walked.{none_chosen, found_chosen, due_or_none}
use Rattle.startup.proofs.table.AttemptTable.due.Goals as goal

pub index-requires : goal.index-requires
index-requires c =
    let i = c.self.inside in
    ap is_some (due_or_none i.rows i.keys.keys i.deadlines c.self.invariant c.args.moment (Some c.in-Some.slot) c.in-Some.ensures.some tt).1.stands

pub returns-in-Some : goal.returns-in-Some
returns-in-Some c =
    let i = c.self.inside in
    subst (λ (a : Attempts). IsChosenWith (lowest (is_due c.args.moment) a) a c.found_in.result.near c.found_in.result.attempt.now) (ap (λ (t : Table). t.attempts) c.self.view_is)
    (found_chosen (is_due c.args.moment) i.rows i.keys.keys c.self.invariant.names c.in-Some.slot c.index.result.now c.index.ensures
    (due_or_none i.rows i.keys.keys i.deadlines c.self.invariant c.args.moment (Some c.in-Some.slot) c.in-Some.ensures.some tt).1 _ _ c.found_in.ensures.near c.found_in.ensures.attempt)

pub returns-in-None : goal.returns-in-None
returns-in-None c =
    let i = c.self.inside in
    subst (λ (a : Attempts). lowest (is_due c.args.moment) a ≡ None) (ap (λ (t : Table). t.attempts) c.self.view_is)
    (none_chosen (is_due c.args.moment) i.rows i.keys.keys c.self.invariant.names (due_or_none i.rows i.keys.keys i.deadlines c.self.invariant c.args.moment None tt c.in-None.ensures.none).0)
