use Rattle.std.proofs.Common.{sym, subst}
use Rattle.end_places.specs.Carrying.{carried_of, after_carry}
use Rattle.placed_world.specs.Seen.{PlacedSeen}
use Rattle.placed_world.specs.Stepping.{placed, carried_to}
use Rattle.placed_world.specs.Taking.{IsTaken}
use Rattle.placed_world.proofs.Carriage.{refused_by}
use Rattle.placed_world.proofs.world.PlacedWorld.carry_from.Goals as goal

pub come_to-requires-clause-came : goal.come_to-requires-clause-came
come_to-requires-clause-came c =
    (c.self.inside.places, record { answer = c.in-Ok.ensures.answer; made = c.news-news.ensures; left = c.in-Ok.ensures.ok })

pub returns-in-Ok : goal.returns-in-Ok
returns-in-Ok c =
    subst (λ (p : PlacedSeen). IsTaken p c.args.line (carried_to c.args.number c.args.sender (after_carry p.places c.args.sender c.args.to.now) (carried_of p.places c.args.sender c.args.to.now)) c.come_to.result c.come_to.new.self) c.self.view_is
    (c.come_to.ensures c.self.inside.places (record { answer = c.in-Ok.ensures.answer; made = c.news-news.ensures; left = c.in-Ok.ensures.ok }))

pub returns-in-Err : goal.returns-in-Err
returns-in-Err c =
    let s = c.self.inside in
    let here = placed s.world s.places in
    let there = placed s.world c.carry.new.self in
    subst (λ (p : PlacedSeen). IsTaken p c.args.line (carried_to c.args.number c.args.sender (after_carry p.places c.args.sender c.args.to.now) (carried_of p.places c.args.sender c.args.to.now)) c.told_of.result there) c.self.view_is
    (subst (λ r. IsTaken here c.args.line (carried_to c.args.number c.args.sender (after_carry s.places c.args.sender c.args.to.now) (carried_of s.places c.args.sender c.args.to.now)) r there) (sym c.told_of.ensures)
    (refused_by here there c.args.line c.args.number c.args.sender (after_carry s.places c.args.sender c.args.to.now) (carried_of s.places c.args.sender c.args.to.now) c.carry.result c.in-Err.refusal c.in-Err.is c.carry.ensures.bad c.carry.ensures.memory
    (λ i. placed s.world (c.in-Err.ensures.err i))))
