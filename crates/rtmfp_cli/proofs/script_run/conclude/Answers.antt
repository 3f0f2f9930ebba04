use Rattle.std.proofs.Common.{◌≡◌, List, ℕ, refl, rules}
use Rattle.rtmfp_host.specs.Seen.{SinkSeen}
use Rattle.rtmfp_lines.specs.declared.status.Status.{Status as RunStatus}
use Rattle.rtmfp_lines.specs.declared.status.Status.TheVariants.{Done}
use Rattle.rtmfp_cli.specs.Turning.{Concludes}
use Rattle.rtmfp_cli.proofs.script_run.conclude.Goals as goal

-- all statuses but one
others : (s : RunStatus) (ending : List ℕ) (sink : SinkSeen) → (s ≡ Done → ⊥) → Concludes s s ending sink sink
others Done ending sink not = absurd (not refl)
others _ ending sink not = (refl, refl)

pub returns-in-Done : goal.returns-in-Done
returns-in-Done g c = search rules

pub returns-in_default : goal.returns-in_default
returns-in_default g c = others c.args.status _ _ c.in_default.not-Done
