use Rattle.std.proofs.Common.{◌≡◌, ℕ, length, sym, subst, arith}
use Rattle.flow_send.specs.Slots.{AreFrom}
use Rattle.flow_send.proofs.Slotting.{from_end}
use Rattle.flow_send.proofs.slots.place.Goals as goal

pub loop-low-init : goal.loop-low-init
loop-low-init c =
    let items = c.args.slots.now.items in
    let all : c.len-high.result ≡ length items = omega (arith, c.len-high.ensures, c.args.slots.now.ok) in
    record {
      order = omega arith;
      there = omega (arith, all);
      below = tt;
      from = subst (λ (i : ℕ). AreFrom c.args.number i items) (sym all) (from_end c.args.number items);
    }
