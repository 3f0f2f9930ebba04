use Rattle.std.proofs.Common.{subst, sym, ap}
use Rattle.endpoint_laws.specs.Past.{with_begun}
use Rattle.log_contexts.specs.Kept.{KeptContexts}
use Rattle.log_contexts.specs.Contexts.{AreContextsOf}
use Rattle.log_contexts.proofs.Going.{contexts_begun}
use Rattle.log_contexts.proofs.contexts.Contexts.begin.Goals as goal

pub returns-clause-log : goal.returns-clause-log
returns-clause-log c = λ secrets setup past moment e are opened_is sought_is none.
    subst (AreContextsOf secrets setup (with_begun moment e past)) (sym (λ i. record { opened = c.args.opened; sought = c.args.sought; threads = ap (λ (k : KeptContexts). k.threads) c.self.view_is i; sessions = ap (λ (k : KeptContexts). k.sessions) c.self.view_is i }))
    (contexts_begun secrets setup past c.args.self.now are moment e c.args.opened c.args.sought opened_is sought_is none)
