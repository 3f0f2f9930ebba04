use Rattle.std.proofs.Common.{◌∙◌, is_some, sym, ap}
use Rattle.std.specs.FinMap.{get, insert}
use Rattle.std.proofs.lemmas.Option.{same_Some}
use Rattle.keyed_slab.specs.KeyedSlab.{with_thing}
use Rattle.startup.specs.State.{AttemptState}
use Rattle.startup.specs.Sought.{change_of}
use Rattle.startup.specs.Table.{Table, near_of, attempt_of, attempts_in, with_changed, in_attempt}
use Rattle.startup.proofs.Seats.{of_key, of_no_key, free_for, changed_loose, changed_there, changed_is_put, settled_kept}
use Rattle.startup.proofs.table.AttemptTable.change.Goals as goal

pub index_mut-requires : goal.index_mut-requires
index_mut-requires c = ap is_some (c.self.invariant.names.seated c.args.near c.in-Some.key (sym c.get.ensures ∙ c.in-Some.is)).stands

pub change_row-due-requires : goal.change_row-due-requires
change_row-due-requires c =
    let i = c.self.inside in
    c.requires c.index_mut.result.now.attempt
    (sym (ap (λ (t : Table). get t.attempts c.args.near) c.self.view_is)
    ∙ of_key i.rows i.keys.keys c.self.invariant.names c.args.near c.in-Some.key c.index_mut.result.now (sym c.get.ensures ∙ c.in-Some.is) c.index_mut.ensures.value)

pub set-requires-clause-room : goal.set-requires-clause-room
set-requires-clause-room c =
    let i = c.self.inside in
    (changed_loose i.rows i.keys.keys i.deadlines c.in-Some.key.slot c.self.invariant c.index_mut.result.now c.change_row-due.new.row c.index_mut.ensures.value (ap near_of c.change_row-due.ensures.row)).timer

pub set-requires-clause-free : goal.set-requires-clause-free
set-requires-clause-free c =
    let i = c.self.inside in
    let slot = c.in-Some.key.slot in
    let old = c.index_mut.result.now in
    let new = c.change_row-due.new.row in
    let at = c.index_mut.ensures.value in
    let same = ap near_of c.change_row-due.ensures.row in
    let seat = c.self.invariant.names.seated c.args.near c.in-Some.key (sym c.get.ensures ∙ c.in-Some.is) in
    let near_is = ap near_of (same_Some old seat.thing (sym at ∙ seat.stands)) ∙ seat.near_is in
    λ other d n is mine. free_for (with_thing i.rows slot new) i.keys.keys i.deadlines slot new (changed_loose i.rows i.keys.keys i.deadlines slot c.self.invariant old new at same)
    (changed_there i.rows i.keys.keys i.deadlines slot c.self.invariant old new at same) other d n is (mine ∙ sym (same ∙ near_is))

pub invariant_of-self : goal.invariant_of-self
invariant_of-self c =
    let i = c.self.inside in
    let slot = c.in-Some.key.slot in
    let old = c.index_mut.result.now in
    let new = c.change_row-due.new.row in
    let at = c.index_mut.ensures.value in
    let same = ap near_of c.change_row-due.ensures.row in
    let seat = c.self.invariant.names.seated c.args.near c.in-Some.key (sym c.get.ensures ∙ c.in-Some.is) in
    let near_is = ap near_of (same_Some old seat.thing (sym at ∙ seat.stands)) ∙ seat.near_is in
    settled_kept (with_thing i.rows slot new) i.keys.keys i.deadlines slot new (changed_loose i.rows i.keys.keys i.deadlines slot c.self.invariant old new at same)
    (changed_there i.rows i.keys.keys i.deadlines slot c.self.invariant old new at same) c.change_row-due.result c.args.near c.set.new.self c.set.ensures c.change_row-due.ensures.due (sym (same ∙ near_is))

pub returns : goal.returns
returns c =
    let i = c.self.inside in
    let slot = c.in-Some.key.slot in
    let old = c.index_mut.result.now in
    let new = c.change_row-due.new.row in
    let at = c.index_mut.ensures.value in
    let same = ap near_of c.change_row-due.ensures.row in
    let key_is = sym c.get.ensures ∙ c.in-Some.is in
    let seat = c.self.invariant.names.seated c.args.near c.in-Some.key key_is in
    let near_is = ap near_of (same_Some old seat.thing (sym at ∙ seat.stands)) ∙ seat.near_is in
    let f : AttemptState → AttemptState = change_of c.args.change.now c.args.moment in
    changed_is_put i.rows i.keys.keys i.deadlines slot c.self.invariant old new at same
    ∙ (λ j. insert (attempts_in i.rows) ((same ∙ near_is) j) (attempt_of (c.change_row-due.ensures.row j)))
    ∙ sym (ap (with_changed f (attempts_in i.rows) c.args.near) (of_key i.rows i.keys.keys c.self.invariant.names c.args.near c.in-Some.key old key_is at))
    ∙ ap (λ (t : Table). in_attempt f t.attempts c.args.near) c.self.view_is

pub returns-in_default : goal.returns-in_default
returns-in_default c =
    let i = c.self.inside in
    let none = sym (ap (λ (t : Table). get t.attempts c.args.near) c.self.view_is) ∙ of_no_key i.rows i.keys.keys c.self.invariant.names c.args.near (sym c.get.ensures ∙ c.in_default.is) in
    sym (ap (with_changed (change_of c.args.change.now c.args.moment) c.args.self.now.attempts c.args.near) none)
