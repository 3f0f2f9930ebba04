use Rattle.std.proofs.Common.{subst, sym}
use Rattle.log_contexts.specs.Taking.{IsTakingOf}
use Rattle.log_contexts.proofs.Takings.{taking_is}
use Rattle.log_contexts.proofs.taking.Taking.of.Goals as goal

pub returns-clause-log : goal.returns-clause-log
returns-clause-log c = λ secrets setup last past is knows are free.
    subst (IsTakingOf secrets setup past c.args.sid) (sym c.at.ensures)
    (taking_is secrets setup last past c.args.generations.now c.args.digest.now c.args.contexts.now is knows are c.args.sid free)
