use Rattle.std.proofs.Common.{ap, subst}
use Rattle.startup.specs.State.{Attempts, StartupState}
use Rattle.startup.specs.Attempts.{changed}
use Rattle.startup.specs.Sought.{IsChosenAt}
use Rattle.startup.proofs.startup.Startup.judge_cookie_change.Goals as goal

pub returns-in-Ok-clause-found : goal.returns-in-Ok-clause-found
returns-in-Ok-clause-found c =
    let is = subst (λ (a : Attempts). IsChosenAt (changed a c.args.sid c.args.old.now) a c.in-Ok.near) (ap (λ (t : StartupState). t.attempts) c.self.view_is) c.in-Ok.ensures.ok in
    record { attempt = is.attempt; chosen_is = is.chosen_is; there = is.there }
