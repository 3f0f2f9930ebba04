use Rattle.std.proofs.Common.{◌≤◌, ◌+◌, ◌∙◌, refl, sym, ap, subst, length, arith}
use Rattle.deadlines.specs.Deadlines.{Slots, entry_of}
use Rattle.deadlines.proofs.Keeping.{entry_in_room}
use Rattle.startup.proofs.Seats.{wider_is_kept, grown_room}
use Rattle.startup.proofs.table.AttemptTable.reserve.Goals as goal

pub invariant_of-self : goal.invariant_of-self
invariant_of-self c =
    let i = c.self.inside in
    wider_is_kept i.rows i.rows i.keys.keys c.reserve.new.self.keys i.deadlines i.deadlines c.self.invariant refl (λ _. refl) c.reserve.ensures.keys (λ _. refl) (omega arith)

pub invariant_of-self-in_err-last : goal.invariant_of-self-in_err-last
invariant_of-self-in_err-last c =
    let i = c.self.inside in
    wider_is_kept i.rows c.reserve-2.new.self i.keys.keys c.reserve.new.self.keys i.deadlines i.deadlines c.self.invariant c.reserve-2.ensures.things c.reserve-2.ensures.generations c.reserve.ensures.keys (λ _. refl) (omega arith)

pub invariant_of-self-in_err-reserve-2 : goal.invariant_of-self-in_err-reserve-2
invariant_of-self-in_err-reserve-2 c =
    let i = c.self.inside in
    wider_is_kept i.rows c.reserve-2.new.self i.keys.keys c.reserve.new.self.keys i.deadlines c.reserve-3.new.self c.self.invariant c.reserve-2.ensures.things c.reserve-2.ensures.generations c.reserve.ensures.keys
    (λ slot. ap (λ (d : Slots). entry_of d slot) c.in_err-reserve-2.ensures.err) (let long = ap (λ (d : Slots). length d) c.in_err-reserve-2.ensures.err in omega (arith, long))

pub invariant_of-self-2 : goal.invariant_of-self-2
invariant_of-self-2 c =
    let i = c.self.inside in
    wider_is_kept i.rows c.reserve-2.new.self i.keys.keys c.reserve.new.self.keys i.deadlines c.reserve-3.new.self c.self.invariant c.reserve-2.ensures.things c.reserve-2.ensures.generations c.reserve.ensures.keys
    (λ slot. ap (λ (d : Slots). entry_of d slot) c.in_ok-reserve-2.ensures.ok ∙ entry_in_room i.deadlines (c.in_ok-last.last + 1) slot)
    (subst (λ (d : Slots). length i.deadlines ≤ length d) (sym c.in_ok-reserve-2.ensures.ok) (grown_room i.deadlines (c.in_ok-last.last + 1)))
