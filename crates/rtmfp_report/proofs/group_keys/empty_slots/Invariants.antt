use Rattle.endpoint_laws.specs.Contexts.{Secrets}
use Rattle.rtmfp_report.specs.KeptKeys.{AreUnder}
use Rattle.rtmfp_report.proofs.group_keys.empty_slots.Given as goal

abbrev pub invariant-loop : goal.invariant-loop
invariant-loop l = (secrets : Secrets) → AreUnder secrets l.slots.items
