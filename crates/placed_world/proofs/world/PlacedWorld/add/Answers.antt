use Rattle.std.proofs.Common.{sym, subst}
use Rattle.translators.specs.Translator.{new_translator}
use Rattle.end_places.specs.Seen.{is_bad_translator, with_translator}
use Rattle.placed_world.specs.Seen.{PlacedSeen}
use Rattle.placed_world.specs.Stepping.{placed, comes_to}
use Rattle.placed_world.specs.Taking.{IsTaken}
use Rattle.placed_world.specs.declared.step.PlacedStep.TheVariants.{Translator}
use Rattle.placed_world.proofs.Answering.{places_taken}
use Rattle.placed_world.proofs.world.PlacedWorld.add.Goals as goal

pub returns : goal.returns
returns c =
    let s = c.self.inside in
    let translator = new_translator c.args.mapping c.args.filter c.args.host c.args.first in
    subst (λ (p : PlacedSeen). IsTaken p c.args.line (comes_to p (Translator c.args.name.now c.args.mapping c.args.filter c.args.host c.args.first)) c.told_of.result (placed s.world c.add.new.self)) c.self.view_is
    (subst (λ r. IsTaken (placed s.world s.places) c.args.line (comes_to (placed s.world s.places) (Translator c.args.name.now c.args.mapping c.args.filter c.args.host c.args.first)) r (placed s.world c.add.new.self)) (sym c.told_of.ensures)
    (places_taken s.world s.places c.add.new.self (with_translator s.places c.args.name.now translator) c.args.line (is_bad_translator s.places c.args.name.now c.args.host c.args.first) c.add.result c.add.ensures.ok c.add.ensures.err c.add.ensures.bad c.add.ensures.memory))
