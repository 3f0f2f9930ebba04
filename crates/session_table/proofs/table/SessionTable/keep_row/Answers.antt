use Rattle.std.proofs.Common.{sym, ap, ◌∙◌}
use Rattle.std.specs.FinMap.{insert}
use Rattle.std.proofs.lemmas.Option.{same_Some}
use Rattle.session_table.specs.Table.{Table, near_of}
use Rattle.session_table.specs.Inside.{slot_of}
use Rattle.session_table.proofs.Changing.{row_set_loose}
use Rattle.session_table.proofs.Rows.{row_there, put_at, no_key}
use Rattle.session_table.proofs.table.SessionTable.keep_row.Goals as goal

pub settle-requires : goal.settle-requires
settle-requires c =
    let k = c.self.inside.kept in
    let there = row_there k.rows c.near_of.result c.self.invariant c.in-Some.slot c.in-Some.ensures.found in
    let stays = sym (ap near_of (same_Some c.index_mut.result.now there.row (sym c.index_mut.ensures.value ∙ there.stands)) ∙ there.near_is ∙ c.near_of.ensures) in
    row_set_loose k.rows c.in-Some.slot c.index_mut.result.now c.args.row c.self.invariant c.index_mut.ensures.value stays

pub returns-in-Some : goal.returns-in-Some
returns-in-Some c =
    let k = c.self.inside.kept in
    let there = row_there k.rows c.near_of.result c.self.invariant c.in-Some.slot c.in-Some.ensures.found in
    let stays = sym (ap near_of (same_Some c.index_mut.result.now there.row (sym c.index_mut.ensures.value ∙ there.stands)) ∙ there.near_is ∙ c.near_of.ensures) in
    c.settle.ensures.table ∙ put_at k.rows c.in-Some.slot c.index_mut.result.now c.args.row c.self.invariant c.index_mut.ensures.value stays
    ∙ ap (λ (t : Table). insert t.rows (near_of c.args.row) c.args.row) c.self.view_is

pub add-requires-clause-none : goal.add-requires-clause-none
add-requires-clause-none c =
    let k = c.self.inside.kept in
    no_key k.rows (near_of c.args.row) c.self.invariant (c.in-None.ensures.found ∙ ap (slot_of k.keys.keys) c.near_of.ensures)
