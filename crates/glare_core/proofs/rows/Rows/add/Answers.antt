use Rattle.std.proofs.Common.{◌∙◌, ap}
use Rattle.std.specs.FinMap.{len}
use Rattle.glare_core.specs.Standing.{peer_of}
use Rattle.glare_core.proofs.Tables.{rows_noted, blank_row, len_added}
use Rattle.glare_core.proofs.rows.Rows.add.Goals as goal

pub returns-clause-rows : goal.returns-clause-rows
returns-clause-rows c =
    rows_noted c.self.inside.map c.insert.new.self c.args.fact.now c.args.self.now c.of.result c.row_after.result c.blank.result
    c.in_ok-insert.ensures.updates c.self.view_is (c.of.ensures ∙ c.peer_of.ensures) c.row_after.ensures (c.blank.ensures ∙ blank_row c.args.self.now (peer_of c.args.fact.now) c.requires)

pub returns-clause-len : goal.returns-clause-len
returns-clause-len c = ap len (returns-clause-rows c) ∙ len_added c.args.fact.now c.args.self.now c.requires
