use Rattle.std.proofs.Common.{◌≤◌, length, ap, ◌∙◌, subst, arith}
use Rattle.std.proofs.lemmas.Grind.{common_steps}
use Rattle.std.specs.FinMap.{get}
use Rattle.startup.specs.State.{SpreadParts}
use Rattle.endpoint_model.specs.State.{State}
use Rattle.endpoint.proofs.Begun.{place_to_seek, places_to_seek, unused_from, few_places}
use Rattle.endpoint.proofs.searches.begin_search.Goals as goal

pub seek-requires-clause-some : goal.seek-requires-clause-some
seek-requires-clause-some c = (places_to_seek c.args.end.now c.args.candidates.now c.requires).0

pub seek-requires-clause-few : goal.seek-requires-clause-few
seek-requires-clause-few c = (places_to_seek c.args.end.now c.args.candidates.now c.requires).1

pub seek-requires-clause-near : goal.seek-requires-clause-near
seek-requires-clause-near c =
    (unused_from c.args.end.now c.args.draws.now.word c.free_from-near.result
    (subst (λ (s : State). s.config.max_sessions ≤ 65536) c.end.view_is c.end.invariant.few) (omega arith)
    (place_to_seek c.args.end.now c.args.candidates.now c.requires) c.free_from-near.ensures).other

pub seek-requires-clause-free : goal.seek-requires-clause-free
seek-requires-clause-free c =
    ap (λ (s : State). get s.startup.attempts c.free_from-near.result) c.end.view_is
    ∙ (unused_from c.args.end.now c.args.draws.now.word c.free_from-near.result
    (subst (λ (s : State). s.config.max_sessions ≤ 65536) c.end.view_is c.end.invariant.few) (omega arith)
    (place_to_seek c.args.end.now c.args.candidates.now c.requires) c.free_from-near.ensures).none

pub send_each-requires-clause-enough : goal.send_each-requires-clause-enough
send_each-requires-clause-enough c =
    omega (arith, few_places c.args.candidates.now, ap length (c.addresses.ensures.addresses ∙ ap (λ (s : SpreadParts). s.to) c.in-Ok.ensures.spread), c.in_ok-blanks.ensures.count)

pub send_each-requires-clause-room : goal.send_each-requires-clause-room
send_each-requires-clause-room c =
    omega (arith, few_places c.args.candidates.now, ap length (c.addresses.ensures.addresses ∙ ap (λ (s : SpreadParts). s.to) c.in-Ok.ensures.spread), c.in_ok-make_room.ensures.ok, c.add.ensures.free)

-- so that a wrong body is refused fast
pub returns-in-Ok-clause-ok : goal.returns-in-Ok-clause-ok
returns-in-Ok-clause-ok c = grind (arith, common_steps)
