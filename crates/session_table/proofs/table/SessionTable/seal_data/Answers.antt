use Rattle.std.proofs.Common.{Option, IfSome, sym, ap, subst, ◌∙◌}
use Rattle.endpoint_model.specs.declared.row.Row.{Row}
use Rattle.session_table.specs.Table.{near_of}
use Rattle.session_table.specs.FlowTimes.{DataFalls, data_at, data_gone}
use Rattle.session_table.proofs.Called.{there}
use Rattle.endpoint_model.specs.Sending.{session_packet}
use Rattle.session_table.proofs.Changing.{packing_keeps}
use Rattle.session_table.proofs.Taken.{row_loose, row_changed, packed_is, packed_none, same_rows, none_there}
use Rattle.session_table.proofs.table.SessionTable.seal_data.Goals as goal

pub settle-requires : goal.settle-requires
settle-requires c = row_loose c.args.self.now c.self.inside.kept.rows _ c.args.near c.in-Some.slot c.index_mut.result.now c.self.view_is c.self.invariant c.in-Some.ensures.found c.index_mut.ensures.value c.seal_data_in-packed.new.row (ap near_of c.seal_data_in-packed.ensures.row ∙ packing_keeps c.args.limit (session_packet c.index_mut.result.now.session c.args.moment (data_at c.args.moment c.index_mut.result.now)) c.index_mut.result.now.session)

pub returns-in-Some-clause-answer : goal.returns-in-Some-clause-answer
returns-in-Some-clause-answer c = packed_is c.args.self.now c.self.inside.kept.rows _ c.args.near c.in-Some.slot c.index_mut.result.now c.self.view_is c.self.invariant c.in-Some.ensures.found c.index_mut.ensures.value c.args.limit c.args.moment (data_at c.args.moment) c.seal_data_in-packed.result c.seal_data_in-packed.ensures.answer

pub returns-in-Some-clause-rows : goal.returns-in-Some-clause-rows
returns-in-Some-clause-rows c = c.settle.ensures.table ∙ row_changed c.args.self.now c.self.inside.kept.rows _ c.args.near c.in-Some.slot c.index_mut.result.now c.self.view_is c.self.invariant c.in-Some.ensures.found c.index_mut.ensures.value (data_gone c.args.limit c.args.moment) c.seal_data_in-packed.new.row c.seal_data_in-packed.ensures.row (ap near_of c.seal_data_in-packed.ensures.row ∙ packing_keeps c.args.limit (session_packet c.index_mut.result.now.session c.args.moment (data_at c.args.moment c.index_mut.result.now)) c.index_mut.result.now.session)

pub returns-in-Some-clause-falls : goal.returns-in-Some-clause-falls
returns-in-Some-clause-falls c =
    subst (λ (o : Option Row). IfSome o (λ (row : Row). DataFalls c.args.moment row)) (sym (there c.args.self.now c.self.inside.kept.rows _ c.args.near c.in-Some.slot c.index_mut.result.now c.self.view_is c.self.invariant c.in-Some.ensures.found c.index_mut.ensures.value)) c.seal_data_in-packed.ensures.falls

pub returns-in-None-clause-answer : goal.returns-in-None-clause-answer
returns-in-None-clause-answer c = packed_none c.args.self.now c.self.inside.kept.rows _ c.args.near c.self.view_is c.self.invariant c.in-None.ensures.found c.args.limit c.args.moment (data_at c.args.moment)

pub returns-in-None-clause-rows : goal.returns-in-None-clause-rows
returns-in-None-clause-rows c = same_rows c.args.self.now c.self.inside.kept.rows _ c.args.near c.self.view_is c.self.invariant c.in-None.ensures.found (data_gone c.args.limit c.args.moment)

pub returns-in-None-clause-falls : goal.returns-in-None-clause-falls
returns-in-None-clause-falls c =
    subst (λ (o : Option Row). IfSome o (λ (row : Row). DataFalls c.args.moment row)) (sym (none_there c.args.self.now c.self.inside.kept.rows _ c.args.near c.self.view_is c.self.invariant c.in-None.ensures.found)) tt
