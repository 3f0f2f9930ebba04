use Rattle.std.proofs.Common.{◌≡◌, List}
use Rattle.endpoint_model.specs.Event.{Setup}
use Rattle.endpoint_laws.specs.Contexts.{Secrets}
use Rattle.endpoint_laws.specs.History.{History}
use Rattle.log_verdict.specs.Checks.{kept_in}
use Rattle.log_audit.specs.Ends.{AreEndsOf}
use Rattle.log_audit.proofs.ends.kept_by.Given as goal

abbrev pub invariant-loop-end : goal.invariant-loop-end
invariant-loop-end l = (secrets : Secrets) (setups : List Setup) (history : History) →
    AreEndsOf secrets setups history l.ends → l.kept ≡ kept_in l.end-index history
