use Rattle.std.proofs.Common.{◌≡◌, ◌≢◌, sym, arith}
use Rattle.flow_send.proofs.Slotting.{found_is, other_is, none_is}
use Rattle.flow_send.proofs.slots.found.Goals.{then-found-gt0-via-then-found-gt0, then-found-gt0-via-else-found-gt0+then-found-number}
use Rattle.flow_send.proofs.slots.found.Goals as goal

pub returns-then-found-gt0-clause-message : goal.returns-then-found-gt0-clause-message
returns-then-found-gt0-clause-message c =
    let s = c.in-Some.found in
    let ne : s.gone ≡ 0 → s.message.number ≢ c.args.number = elim c.then-found-gt0.branch [
      | then-found-gt0-via-then-found-gt0 w ↦ λ g. absurd (let lt = w.if-found-gt0.true in omega (arith, g, lt))
      | then-found-gt0-via-else-found-gt0+then-found-number w ↦ λ g. w.if-found-number.true
    ] in
    sym (other_is c.args.number c.args.at 0 c.args.slots.now.items s c.requires.line c.requires.place (sym c.in-Some.ensures) ne)

pub returns-clause-message : goal.returns-clause-message
returns-clause-message c = sym (found_is c.args.number c.args.at c.args.slots.now.items c.in-Some.found c.requires.place.below (sym c.in-Some.ensures) (omega (arith, c.if-found-gt0.false)) c.if-found-number.false)

pub returns-in_default-clause-message : goal.returns-in_default-clause-message
returns-in_default-clause-message c = sym (none_is c.args.number c.args.at c.args.slots.now.items c.requires.place.below (sym c.in_default.ensures))
