use Rattle.std.proofs.Common.{ap, ◌∙◌, ◌<◌, subst}
use Rattle.session_table.specs.Table.{near_of}
use Rattle.session_flows.specs.Owing.{owed_count}
use Rattle.endpoint_model.specs.declared.row.Row.{Row}
use Rattle.session_table.specs.Chunks.{acked, acks_at}
use Rattle.endpoint_model.specs.Sending.{session_packet}
use Rattle.session_table.proofs.Changing.{packing_keeps}
use Rattle.session_table.proofs.Taken.{row_loose, row_changed, packed_is, packed_none, same_rows, fewer_owed, owes_nowhere}
use Rattle.session_table.proofs.table.SessionTable.seal_acks.Goals as goal

pub settle-requires : goal.settle-requires
settle-requires c = row_loose c.args.self.now c.self.inside.kept.rows _ c.args.near c.in-Some.slot c.index_mut.result.now c.self.view_is c.self.invariant c.in-Some.ensures.found c.index_mut.ensures.value c.seal_acks_of-packed.new.row (ap near_of c.seal_acks_of-packed.ensures.row ∙ packing_keeps c.args.limit (session_packet c.index_mut.result.now.session c.args.moment (acks_at c.args.moment c.index_mut.result.now)) c.index_mut.result.now.session)

pub returns-in-Some-clause-answer : goal.returns-in-Some-clause-answer
returns-in-Some-clause-answer c = packed_is c.args.self.now c.self.inside.kept.rows _ c.args.near c.in-Some.slot c.index_mut.result.now c.self.view_is c.self.invariant c.in-Some.ensures.found c.index_mut.ensures.value c.args.limit c.args.moment (acks_at c.args.moment) c.seal_acks_of-packed.result c.seal_acks_of-packed.ensures.answer

pub returns-in-Some-clause-rows : goal.returns-in-Some-clause-rows
returns-in-Some-clause-rows c = c.settle.ensures.table ∙ row_changed c.args.self.now c.self.inside.kept.rows _ c.args.near c.in-Some.slot c.index_mut.result.now c.self.view_is c.self.invariant c.in-Some.ensures.found c.index_mut.ensures.value (acked c.args.limit c.args.moment) c.seal_acks_of-packed.new.row c.seal_acks_of-packed.ensures.row (ap near_of c.seal_acks_of-packed.ensures.row ∙ packing_keeps c.args.limit (session_packet c.index_mut.result.now.session c.args.moment (acks_at c.args.moment c.index_mut.result.now)) c.index_mut.result.now.session)

pub returns-in-None-clause-answer : goal.returns-in-None-clause-answer
returns-in-None-clause-answer c = packed_none c.args.self.now c.self.inside.kept.rows _ c.args.near c.self.view_is c.self.invariant c.in-None.ensures.found c.args.limit c.args.moment (acks_at c.args.moment)

pub returns-in-None-clause-rows : goal.returns-in-None-clause-rows
returns-in-None-clause-rows c = same_rows c.args.self.now c.self.inside.kept.rows _ c.args.near c.self.view_is c.self.invariant c.in-None.ensures.found (acked c.args.limit c.args.moment)

pub returns-in-Some-clause-falls : goal.returns-in-Some-clause-falls
returns-in-Some-clause-falls c = fewer_owed c.args.self.now c.self.inside.kept.rows _ c.args.near c.in-Some.slot c.index_mut.result.now c.self.view_is c.self.invariant c.in-Some.ensures.found c.index_mut.ensures.value (acked c.args.limit c.args.moment) _ (returns-in-Some-clause-rows c)
    (λ owed. subst (λ (row : Row). owed_count row.flows < owed_count c.index_mut.result.now.flows) c.seal_acks_of-packed.ensures.row (c.seal_acks_of-packed.ensures.falls owed))

pub returns-in-None-clause-falls : goal.returns-in-None-clause-falls
returns-in-None-clause-falls c = owes_nowhere c.args.self.now c.self.inside.kept.rows _ c.args.near c.self.view_is c.self.invariant c.in-None.ensures.found _
