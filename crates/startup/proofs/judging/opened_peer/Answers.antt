use Rattle.std.proofs.Common.{◌∙◌, sym, ap}
use Rattle.startup.specs.State.{AttemptState}
use Rattle.startup_packets.specs.Read.{responder_of}
use Rattle.startup.proofs.Greeted.{opens_no_search}
use Rattle.startup.proofs.judging.opened_peer.Goals as goal

pub unreachable-requires : goal.unreachable-requires
unreachable-requires c = opens_no_search (responder_of c.args.fields.now) c.args.attempt.now c.in-ByName.name (ap (λ (a : AttemptState). a.aim) (sym c.attempt.view_is) ∙ c.in-ByName.is) (sym c.unopened_cause.ensures ∙ c.in-None.is)
