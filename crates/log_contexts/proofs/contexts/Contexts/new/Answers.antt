use Rattle.std.proofs.Common.{subst, sym, None}
use Rattle.endpoint_laws.specs.Past.{nothing_done}
use Rattle.log_contexts.specs.Contexts.{AreContextsOf}
use Rattle.log_contexts.proofs.Going.{contexts_first}
use Rattle.log_contexts.proofs.contexts.Contexts.new.Goals as goal

pub returns-clause-log : goal.returns-clause-log
returns-clause-log c = λ secrets setup.
    subst (AreContextsOf secrets setup nothing_done) (sym (λ i. record { opened = None; sought = None; threads = c.new.ensures i; sessions = c.new-2.ensures i })) (contexts_first secrets setup)
