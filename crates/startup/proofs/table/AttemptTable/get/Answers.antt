use Rattle.std.proofs.Common.{◌∙◌, sym, ap}
use Rattle.std.specs.FinMap.{get}
use Rattle.startup.specs.Table.{Table}
use Rattle.startup.proofs.Seats.{named_is, never_unnamed, of_no_key}
use Rattle.startup.proofs.table.AttemptTable.get.Goals as goal

pub returns-in_default : goal.returns-in_default
returns-in_default c =
    let i = c.self.inside in
    sym (of_no_key i.rows i.keys.keys c.self.invariant.names c.args.near (sym c.get.ensures ∙ c.in_default.is)) ∙ ap (λ (t : Table). get t.attempts c.args.near) c.self.view_is

pub returns-in-Some-named : goal.returns-in-Some-named
returns-in-Some-named c =
    let i = c.self.inside in
    named_is i.rows i.keys.keys c.self.invariant.names c.args.near c.in-Some.key (sym c.get.ensures ∙ c.in-Some.is) c.in-Some-named.row.now c.in-Some-named.ensures
    ∙ ap (λ (t : Table). get t.attempts c.args.near) c.self.view_is

pub returns-in-None : goal.returns-in-None
returns-in-None c =
    let i = c.self.inside in
    absurd (never_unnamed i.rows i.keys.keys c.self.invariant.names c.args.near c.in-Some.key (sym c.get.ensures ∙ c.in-Some.is) c.in-None.ensures)
