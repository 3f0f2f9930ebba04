use Rattle.std.proofs.Common.{List, ap, sym, ◌∙◌, arith}
use Rattle.std.specs.List.{slice_get}
use Rattle.flow_send.specs.declared.waiting.Waiting.{Waiting}
use Rattle.flow_send.proofs.Slotting.{there, next_step, next_found, next_none}
use Rattle.flow_send.proofs.slots.next.Goals as goal

pub returns-then-found-eq0 : goal.returns-then-found-eq0
returns-then-found-eq0 c =
    sym (next_found c.loop-found.at c.args.slots.now.items c.in-Some.found (sym c.in-Some.ensures) c.if-found-eq0.true) ∙ ap (λ (ws : List Waiting). slice_get ws 0) c.loop-found.invariant

pub loop-found-smaller : goal.loop-found-smaller
loop-found-smaller c =
    let lt = there c.loop-found.at c.args.slots.now.items c.in-Some.found (sym c.in-Some.ensures) in
    omega (arith, lt, c.if-found-eq0.false, c.saturating_add-at.ensures, c.args.slots.now.ok, c.args.slots.now.small)

pub loop-found-preserved : goal.loop-found-preserved
loop-found-preserved c =
    let lt = there c.loop-found.at c.args.slots.now.items c.in-Some.found (sym c.in-Some.ensures) in
    next_step c.loop-found.at c.saturating_add-at.result c.args.slots.now.items c.in-Some.found c.requires (sym c.in-Some.ensures) (omega (arith, lt, c.saturating_add-at.ensures, c.args.slots.now.ok, c.args.slots.now.small)) (omega (arith, c.saturating_add-at.ensures)) ∙ c.loop-found.invariant

pub returns : goal.returns
returns c = sym (next_none c.loop-found.at c.args.slots.now.items (sym c.in_default.ensures)) ∙ ap (λ (ws : List Waiting). slice_get ws 0) c.loop-found.invariant
