use Rattle.std.proofs.Common.{◌+◌, ◌≤◌, ◌⊎◌, arith, sym, inl, inr}
use Rattle.std.proofs.lemmas.Bool.{cases_lt}
use Rattle.flow_send.specs.Slots.{gone_of}
use Rattle.flow_send.proofs.Slotting.{there, line_longer, waiting_set}
use Rattle.flow_send.proofs.slots.lengthen.Goals as goal

pub returns-clause-line : goal.returns-clause-line
returns-clause-line c =
    let s = c.in-Some.first in
    let r = c.in-Some-slot_at.second in
    let items = c.args.slots.now.items in
    let far = c.saturating_add.result in
    let lt = there far items r (sym c.in-Some-slot_at.ensures) in
    let most : (c.max-gone.result ≤ s.gone) ⊎ (c.max-gone.result ≤ c.args.by + r.gone) = elim (cases_lt s.gone c.max-gone.result) [
      | inl more ↦ inr (omega (arith, more, c.max-gone.ensures, c.saturating_add-2.ensures))
      | inr less ↦ inl less
    ] in
    line_longer c.args.at c.args.by far c.max-gone.result items s r c.requires.line (sym c.in-Some.ensures) (sym c.in-Some-slot_at.ensures) (omega (arith, lt, c.saturating_add.ensures, c.args.slots.now.ok, c.args.slots.now.small)) c.requires.some (omega (arith, c.if-first-by.false)) (omega (arith, c.if-second-by.false)) most
    (omega (arith, c.max-gone.ensures, c.if-first-by.false, c.requires.some))

pub returns-clause-waiting : goal.returns-clause-waiting
returns-clause-waiting c = waiting_set c.args.at c.args.slots.now.items c.in-Some.first (gone_of c.in-Some.first.message c.max-gone.result) (sym c.in-Some.ensures) (omega (arith, c.if-first-by.false, c.requires.some)) (omega (arith, c.max-gone.ensures, c.if-first-by.false, c.requires.some))
