use Rattle.std.proofs.Common.{subst, sym}
use Rattle.log_contexts.specs.Kept.{ThreadTable}
use Rattle.log_contexts.specs.Alone.{AreAlone}
use Rattle.log_contexts.proofs.Noted.{either_way, keyed_still}
use Rattle.log_contexts.proofs.begun.Begun.key.Goals as goal

pub invariant_of-self : goal.invariant_of-self
invariant_of-self c =
    either_way c.key.result c.key.ensures.ok c.key.ensures.err
    (λ e. subst (λ (t : ThreadTable). AreAlone t c.self.inside.alone) (sym e) (keyed_still c.args.generation c.args.nears.now c.self.inside.threads.table c.self.inside.alone c.self.invariant))
    (λ e. subst (λ (t : ThreadTable). AreAlone t c.self.inside.alone) (sym e) c.self.invariant)
