use Rattle.std.proofs.Common.{sym, subst}
use Rattle.placed_world.specs.Seen.{PlacedSeen}
use Rattle.placed_world.specs.Stepping.{Does, placed}
use Rattle.placed_world.specs.Taking.{IsTaken}
use Rattle.placed_world.proofs.Answering.{stepped_as}
use Rattle.placed_world.proofs.world.PlacedWorld.step_world.Goals as goal

pub returns : goal.returns
returns c =
    let s = c.self.inside in
    subst (λ (p : PlacedSeen). IsTaken p c.args.line (Does p.places c.args.step.now) c.step_told.result (placed c.step.new.self s.places)) c.self.view_is
    (subst (λ r. IsTaken (placed s.world s.places) c.args.line (Does s.places c.args.step.now) r (placed c.step.new.self s.places)) (sym c.step_told.ensures)
    (stepped_as s.world c.step.new.self c.args.line c.args.step.now s.places c.step.result c.step.ensures.ok c.step.ensures.refused c.step.ensures.memory c.step.ensures.err))
