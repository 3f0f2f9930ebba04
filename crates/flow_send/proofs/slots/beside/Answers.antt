use Rattle.std.proofs.Common.{◌≡◌, ◌+◌, ℕ, refl, subst, arith}
use Rattle.flow_send.specs.Slots.{AreBelow}
use Rattle.flow_send.proofs.Slotting.{some_below}
use Rattle.flow_send.proofs.slots.beside.Goals as goal

pub returns-then-is_below : goal.returns-then-is_below
returns-then-is_below c =
    let slots = c.args.slots.now in
    let b = c.if-is_below.ensures.below refl in
    let le = some_below c.args.number (c.args.near + 1) slots.items b in
    let e : c.args.near + 1 ≡ c.saturating_add-behind.result = omega (arith, le, c.saturating_add-behind.ensures, slots.ok, slots.small) in
    record { below = subst (λ (i : ℕ). AreBelow c.args.number i slots.items) e b; from = c.if-is_below-2.ensures.from refl }
