use Rattle.std.proofs.Common.{Option, refl, sym, ap, ◌∙◌}
use Rattle.rtmfp_forms.specs.Address.{AddressParts}
use Rattle.mobility.specs.declared.pending.Test.{Test}
use Rattle.mobility.specs.Tests.{after_seen}
use Rattle.session_table.specs.Table.{Table, in_row, tested}
use Rattle.session_table.proofs.Changing.{changed_at, unchanged}
use Rattle.session_table.proofs.table.SessionTable.test.Goals as goal

pub settle-requires : goal.settle-requires
settle-requires c = (changed_at (tested c.args.from.now c.args.token c.args.moment) c.self.inside.kept.rows c.args.near c.in-Some.slot c.index_mut-row.result.now (record c.index_mut-row.result.now { moves = c.seen.new.self }) c.self.invariant
    c.in-Some.ensures.found c.index_mut-row.ensures.value (ap (λ (x : Option Test). record c.index_mut-row.result.now { moves = x }) (c.seen.ensures.pending ∙ ap (λ (a : AddressParts). after_seen c.index_mut-row.result.now.moves a c.args.from.now c.args.token c.args.moment) c.address.ensures)) refl).loose

pub returns-in-Some : goal.returns-in-Some
returns-in-Some c = c.settle.ensures.table ∙ (changed_at (tested c.args.from.now c.args.token c.args.moment) c.self.inside.kept.rows c.args.near c.in-Some.slot c.index_mut-row.result.now (record c.index_mut-row.result.now { moves = c.seen.new.self }) c.self.invariant
    c.in-Some.ensures.found c.index_mut-row.ensures.value (ap (λ (x : Option Test). record c.index_mut-row.result.now { moves = x }) (c.seen.ensures.pending ∙ ap (λ (a : AddressParts). after_seen c.index_mut-row.result.now.moves a c.args.from.now c.args.token c.args.moment) c.address.ensures)) refl).table
    ∙ ap (λ (t : Table). in_row (tested c.args.from.now c.args.token c.args.moment) t.rows c.args.near) c.self.view_is

pub returns-in_default : goal.returns-in_default
returns-in_default c = ap (λ (t : Table). t.rows) (sym c.self.view_is) ∙ unchanged (tested c.args.from.now c.args.token c.args.moment) c.self.inside.kept.rows c.args.near c.self.invariant c.in_default.ensures.found
    ∙ ap (λ (t : Table). in_row (tested c.args.from.now c.args.token c.args.moment) t.rows c.args.near) c.self.view_is
