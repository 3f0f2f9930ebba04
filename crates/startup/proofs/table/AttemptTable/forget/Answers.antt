use Rattle.std.proofs.Common.{◌∙◌, is_some, sym, ap, subst}
use Rattle.std.specs.FinMap.{remove}
use Rattle.rtmfp_base.proofs.Maps.{removed_none}
use Rattle.deadlines.specs.Deadlines.{Slots}
use Rattle.keyed_slab.specs.Keys.{KeyTable}
use Rattle.startup.specs.Table.{Table, IsKept, attempts_in}
use Rattle.startup.proofs.Seats.{of_no_key, gone_kept, gone_is_left}
use Rattle.startup.proofs.table.AttemptTable.forget.Goals as goal

pub invariant_of-self : goal.invariant_of-self
invariant_of-self c =
    let i = c.self.inside in
    let none = sym c.take.ensures.value ∙ c.in_default.is in
    subst (λ (k : KeyTable). IsKept i.rows k i.deadlines) (removed_none i.keys.keys c.args.near none ∙ sym c.take.ensures.rest) c.self.invariant

pub returns-in_default : goal.returns-in_default
returns-in_default c =
    let i = c.self.inside in
    let none = sym c.take.ensures.value ∙ c.in_default.is in
    removed_none (attempts_in i.rows) c.args.near (of_no_key i.rows i.keys.keys c.self.invariant.names c.args.near none) ∙ ap (λ (t : Table). remove t.attempts c.args.near) c.self.view_is

pub remove-requires : goal.remove-requires
remove-requires c = ap is_some (c.self.invariant.names.seated c.args.near c.in-Some.key (sym c.take.ensures.value ∙ c.in-Some.is)).stands

pub invariant_of-self-2 : goal.invariant_of-self-2
invariant_of-self-2 c =
    let i = c.self.inside in
    let seat = c.self.invariant.names.seated c.args.near c.in-Some.key (sym c.take.ensures.value ∙ c.in-Some.is) in
    subst (λ (d : Slots). IsKept c.remove.new.self c.take.new.self.keys d) (sym c.clear.ensures)
    (gone_kept i.rows i.keys.keys i.deadlines c.in-Some.key.slot c.self.invariant c.remove.new.self c.take.new.self.keys seat.thing c.args.near seat.stands seat.near_is c.remove.ensures.things c.remove.ensures.generations c.take.ensures.rest)

pub returns : goal.returns
returns c =
    let i = c.self.inside in
    let seat = c.self.invariant.names.seated c.args.near c.in-Some.key (sym c.take.ensures.value ∙ c.in-Some.is) in
    gone_is_left i.rows i.keys.keys i.deadlines c.in-Some.key.slot c.self.invariant c.remove.new.self c.take.new.self.keys seat.thing c.args.near seat.stands seat.near_is c.remove.ensures.things c.remove.ensures.generations c.take.ensures.rest
    ∙ ap (λ (t : Table). remove t.attempts c.args.near) c.self.view_is
