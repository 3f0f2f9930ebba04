use Rattle.std.proofs.Common.{◌∙◌, ap}
use Rattle.startup.specs.Attempts.{start_cause}
use Rattle.startup.proofs.Greeted.{spent_is}
use Rattle.startup.proofs.choosing.spent_cause.Goals as goal

pub returns : goal.returns
returns c = c.start_cause.ensures ∙ ap start_cause c.start_refusal.ensures ∙ spent_is c.args.peers.now c.args.print.now c.requires.other c.requires.unheld
