use Rattle.std.proofs.Common.{sym, ap, ◌∙◌}
use Rattle.std.specs.FinMap.{len}
use Rattle.keyed_slab.proofs.Named.{as_many_keys}
use Rattle.session_table.specs.Table.{Table, near_of}
use Rattle.session_table.proofs.table.SessionTable.count.Goals as goal

pub returns-clause-value : goal.returns-clause-value
returns-clause-value c =
    let k = c.self.inside.kept in
    c.len.ensures.value ∙ sym (as_many_keys near_of k.rows.things k.rows.generations k.keys.keys c.self.invariant.seats.names) ∙ ap (λ (t : Table). len t.rows) c.self.view_is
