use Rattle.std.proofs.Common.{subst, sym}
use Rattle.log_contexts.specs.Kept.{ThreadTable}
use Rattle.log_contexts.specs.Alone.{AloneTable, AreAlone}
use Rattle.log_contexts.proofs.Noted.{none_alone}
use Rattle.log_contexts.proofs.begun.Begun.new.Goals as goal

pub invariant_of-result : goal.invariant_of-result
invariant_of-result c =
    subst (λ (t : ThreadTable). AreAlone t c.new-2.result) (sym c.new.ensures) (subst (λ (a : AloneTable). AreAlone _ a) (sym c.new-2.ensures) none_alone)
