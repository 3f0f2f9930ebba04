use Rattle.std.proofs.Common.{Ok, Err, None, sym, subst}
use Rattle.end_places.specs.Seen.{PlacesSeen}
use Rattle.end_places.specs.Carrying.{WasCarried}
use Rattle.placed_world.specs.Seen.{PlacedSeen}
use Rattle.placed_world.specs.Stepping.{Brings, placed}
use Rattle.placed_world.specs.Taking.{IsTaken}
use Rattle.placed_world.proofs.Answering.{did_bring, brought}
use Rattle.placed_world.proofs.world.PlacedWorld.deliver.Goals as goal

pub take_back-requires : goal.take_back-requires
take_back-requires c =
    (c.requires.carried.0, subst (λ (p : PlacedSeen). WasCarried c.requires.carried.0 c.args.sender c.args.to.now c.args.news p.places) (sym c.self.view_is) c.requires.carried.1)

pub returns-in-Ok : goal.returns-in-Ok
returns-in-Ok c = λ before was.
    let s = c.self.inside in
    subst (λ (p : PlacedSeen). IsTaken (placed p.world before) c.args.line (Brings p.places c.args.brought.now) (Ok None) (placed c.step.new.self s.places)) c.self.view_is
    (did_bring s.world c.step.new.self c.args.line c.args.brought.now before s.places c.step.result _ c.in-Ok.is c.in-Ok.ensures.ok c.step.ensures.refused)

pub returns-in-Err : goal.returns-in-Err
returns-in-Err c = λ before was.
    let s = c.self.inside in
    let back = c.take_back.ensures before (subst (λ (p : PlacedSeen). WasCarried before c.args.sender c.args.to.now c.args.news p.places) (sym c.self.view_is) was) in
    subst (λ (p : PlacedSeen). IsTaken (placed p.world before) c.args.line (Brings p.places c.args.brought.now) (Err c.in-Err.fault) (placed c.step.new.self c.take_back.new.self)) c.self.view_is
    (subst (λ (q : PlacesSeen). IsTaken (placed s.world before) c.args.line (Brings s.places c.args.brought.now) (Err c.in-Err.fault) (placed c.step.new.self q)) (sym back)
    (brought s.world c.step.new.self c.args.line c.args.brought.now c.step.result c.step.ensures.refused c.step.ensures.memory c.step.ensures.err before s.places c.in-Err.fault c.in-Err.is))
