use Rattle.std.proofs.Common.{◌≤◌, length, ap, ◌∙◌, subst, arith}
use Rattle.std.proofs.lemmas.Grind.{common_steps}
use Rattle.std.specs.FinMap.{get}
use Rattle.startup.specs.State.{SpreadParts}
use Rattle.endpoint_model.specs.State.{State}
use Rattle.endpoint.proofs.Begun.{place_to_open, unused_from, few_places}
use Rattle.endpoint.proofs.attempts.begin.Goals as goal

pub begin-requires-clause-near : goal.begin-requires-clause-near
begin-requires-clause-near c =
    (unused_from c.args.end.now c.args.draws.now.word c.free_from-near.result
    (subst (λ (s : State). s.config.max_sessions ≤ 65536) c.end.view_is c.end.invariant.few) (omega arith)
    (place_to_open c.args.end.now c.args.epd.now.print c.args.candidates.now c.requires) c.free_from-near.ensures).other

pub begin-requires-clause-free : goal.begin-requires-clause-free
begin-requires-clause-free c =
    ap (λ (s : State). get s.startup.attempts c.free_from-near.result) c.end.view_is
    ∙ (unused_from c.args.end.now c.args.draws.now.word c.free_from-near.result
    (subst (λ (s : State). s.config.max_sessions ≤ 65536) c.end.view_is c.end.invariant.few) (omega arith)
    (place_to_open c.args.end.now c.args.epd.now.print c.args.candidates.now c.requires) c.free_from-near.ensures).none

pub send_each-requires-clause-enough : goal.send_each-requires-clause-enough
send_each-requires-clause-enough c =
    omega (arith, few_places c.args.candidates.now, ap length (c.addresses.ensures.addresses ∙ ap (λ (s : SpreadParts). s.to) c.in-Ok.ensures.spread), c.in_ok-blanks.ensures.count)

pub send_each-requires-clause-room : goal.send_each-requires-clause-room
send_each-requires-clause-room c =
    omega (arith, few_places c.args.candidates.now, ap length (c.addresses.ensures.addresses ∙ ap (λ (s : SpreadParts). s.to) c.in-Ok.ensures.spread), c.in_ok-make_room.ensures.ok, c.add.ensures.free)

-- so that a wrong body is refused fast
pub returns-in-Ok-clause-ok : goal.returns-in-Ok-clause-ok
returns-in-Ok-clause-ok c = grind (arith, common_steps)
