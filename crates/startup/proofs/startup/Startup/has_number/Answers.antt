use Rattle.std.proofs.Common.{ap, ◌∙◌, is_some}
use Rattle.glare_core.specs.declared.facts.Why.TheVariants.{Cancelled}
use Rattle.startup.specs.State.{StartupState}
use Rattle.startup.specs.Attempts.{cancel_fact, has_number, lowest}
use Rattle.startup.proofs.Choices.{chosen_or_none}
use Rattle.startup.proofs.Chosen.{ends_what_is}
use Rattle.startup.proofs.startup.Startup.has_number.Goals as goal

pub returns : goal.returns
returns c =
    let i = c.self.inside in
    let chosen = lowest (has_number c.args.n) i.attempts.attempts in
    c.is_some.ensures ∙ chosen_or_none chosen i.attempts.attempts c.find.result c.find.ensures ∙ ends_what_is c.args.n i.attempts.attempts Cancelled
    ∙ ap (λ (s : StartupState). is_some (cancel_fact s c.args.n)) c.self.view_is
