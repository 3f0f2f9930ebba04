use Rattle.std.proofs.Common.{subst, sym}
use Rattle.log_contexts.specs.Kept.{ThreadTable}
use Rattle.log_contexts.specs.Alone.{AreAlone}
use Rattle.log_contexts.proofs.Noted.{either_way, starts_again}
use Rattle.log_contexts.proofs.begun.Begun.start.Goals as goal

pub invariant_of-self : goal.invariant_of-self
invariant_of-self c =
    either_way c.start.result c.start.ensures.ok c.start.ensures.err
    (λ e. subst (λ (t : ThreadTable). AreAlone t c.self.inside.alone) (sym e) (starts_again c.self.inside.threads.table c.self.inside.alone c.args.near c.self.invariant))
    (λ e. subst (λ (t : ThreadTable). AreAlone t c.self.inside.alone) (sym e) c.self.invariant)
