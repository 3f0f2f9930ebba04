use Rattle.std.proofs.Common.{sym, ap, ◌∙◌}
use Rattle.session_table.specs.Table.{near_of, next_packet, packet_counted}
use Rattle.session_table.proofs.Changing.{counting_keeps}
use Rattle.session_table.proofs.Taken.{row_loose, row_changed, told_is, told_none, same_rows}
use Rattle.session_table.proofs.table.SessionTable.take_id.Goals as goal

pub settle-requires : goal.settle-requires
settle-requires c = row_loose c.args.self.now c.self.inside.kept.rows _ c.args.near c.in-Some.slot c.index_mut.result.now c.self.view_is c.self.invariant c.in-Some.ensures.found c.index_mut.ensures.value c.take_id_of-id.new.row (ap near_of c.take_id_of-id.ensures.row ∙ counting_keeps c.args.pieces c.index_mut.result.now)

pub returns-in-Some-clause-answer : goal.returns-in-Some-clause-answer
returns-in-Some-clause-answer c = c.take_id_of-id.ensures.answer ∙ sym (told_is c.args.self.now c.self.inside.kept.rows _ c.args.near c.in-Some.slot c.index_mut.result.now c.self.view_is c.self.invariant c.in-Some.ensures.found c.index_mut.ensures.value (next_packet c.args.pieces))

pub returns-in-Some-clause-rows : goal.returns-in-Some-clause-rows
returns-in-Some-clause-rows c = c.settle.ensures.table ∙ row_changed c.args.self.now c.self.inside.kept.rows _ c.args.near c.in-Some.slot c.index_mut.result.now c.self.view_is c.self.invariant c.in-Some.ensures.found c.index_mut.ensures.value (packet_counted c.args.pieces) c.take_id_of-id.new.row c.take_id_of-id.ensures.row (ap near_of c.take_id_of-id.ensures.row ∙ counting_keeps c.args.pieces c.index_mut.result.now)

pub returns-in-None-clause-answer : goal.returns-in-None-clause-answer
returns-in-None-clause-answer c = sym (told_none c.args.self.now c.self.inside.kept.rows _ c.args.near c.self.view_is c.self.invariant c.in-None.ensures.found (next_packet c.args.pieces))

pub returns-in-None-clause-rows : goal.returns-in-None-clause-rows
returns-in-None-clause-rows c = same_rows c.args.self.now c.self.inside.kept.rows _ c.args.near c.self.view_is c.self.invariant c.in-None.ensures.found (packet_counted c.args.pieces)
