use Rattle.std.proofs.Common.{◌∙◌, sym, ap}
use Rattle.std.specs.FinMap.{len}
use Rattle.startup.specs.Table.{Table}
use Rattle.startup.proofs.Seats.{len_attempts}
use Rattle.startup.proofs.table.AttemptTable.count.Goals as goal

pub returns-clause-value : goal.returns-clause-value
returns-clause-value c =
    let i = c.self.inside in
    c.len.ensures.value ∙ sym (len_attempts i.rows i.keys.keys c.self.invariant.names) ∙ ap (λ (t : Table). len t.attempts) c.self.view_is
