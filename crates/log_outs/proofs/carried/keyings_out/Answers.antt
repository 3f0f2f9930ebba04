use Rattle.std.proofs.Common.{Some}
use Rattle.log_contexts.specs.Contexts.{AreKeyingsOf}
use Rattle.log_outs.specs.Outs.{HoldsKeyings}
use Rattle.log_outs.proofs.Carrying.{in_context, if_ok}
use Rattle.log_outs.proofs.carried.keyings_out.Goals as goal

pub returns-in-Startup : goal.returns-in-Startup
returns-in-Startup c = λ secrets sent number at sealed.
    if_ok (λ ids. HoldsKeyings c.args.opener.now ids.items) (λ ids. AreKeyingsOf secrets (Some sent) ids.items)
    (λ ids holds. in_context secrets sent number c.args.opener.now c.args.context.now c.in-Startup.generation c.in-Startup.is at sealed ids.items holds) c.held_keyings.result c.held_keyings.ensures
