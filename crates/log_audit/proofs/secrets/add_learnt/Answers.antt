use Rattle.std.proofs.Common.{ap, sym, ◌∙◌, Option, List, ℕ}
use Rattle.log_verdict.specs.Told.{with_entries}
use Rattle.log_audit.proofs.Learning.{not_learn, nothing_learnt}
use Rattle.log_audit.proofs.secrets.add_learnt.Goals as goal

pub returns-in_default : goal.returns-in_default
returns-in_default c =
    let e = c.args.event.now in
    sym (ap (λ (o : Option (List ℕ)). with_entries o e.entries.items c.args.secrets.now) (not_learn e.nonce e.call (λ secret is. c.in_default.not-Learn secret is)) ∙ nothing_learnt e.entries.items c.args.secrets.now)
