use Rattle.std.proofs.Common.{◌≡◌, None, Some, sym, subst, ◌∙◌}
use Rattle.rendezvous_world.specs.Datagrams.{nth}
use Rattle.rendezvous_world.specs.Inside.{passing}
use Rattle.rendezvous_world.specs.Sent.{sent_in}
use Rattle.placed_world.specs.Seen.{PlacedSeen}
use Rattle.placed_world.specs.Stepping.{Outcome}
use Rattle.placed_world.specs.Taking.{IsTaken}
use Rattle.placed_world.proofs.Carriage.{missing, carry_is}
use Rattle.placed_world.proofs.world.PlacedWorld.carry.Goals as goal

pub returns-in-None : goal.returns-in-None
returns-in-None c =
    missing c.args.self.now c.args.line c.args.number (nth (sent_in c.args.self.now.world.lines) c.args.number)
    (subst (λ (q : PlacedSeen). passing (nth (sent_in q.world.lines) c.args.number) ≡ None) c.self.view_is (sym c.sent.ensures ∙ c.in-None.is))

pub returns-in-Some : goal.returns-in-Some
returns-in-Some c =
    subst (λ (o : Outcome). IsTaken c.args.self.now c.args.line o c.carry_from.result c.carry_from.new.self)
    (carry_is c.args.self.now.places c.args.number c.in-Some.sent.0 c.in-Some.sent.1 (nth (sent_in c.args.self.now.world.lines) c.args.number)
    (subst (λ (q : PlacedSeen). passing (nth (sent_in q.world.lines) c.args.number) ≡ Some (c.in-Some.sent.0, c.in-Some.sent.1)) c.self.view_is (sym c.sent.ensures ∙ c.in-Some.is)))
    c.carry_from.ensures
