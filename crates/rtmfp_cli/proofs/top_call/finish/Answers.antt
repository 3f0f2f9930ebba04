use Rattle.std.proofs.Common.{◌≡◌, refl}
use Rattle.rtmfp_host.specs.Seen.{SinkSeen}
use Rattle.rtmfp_lines.specs.declared.status.Status.{Status as RunStatus}
use Rattle.rtmfp_lines.specs.declared.status.Status.TheVariants.{SinkFault, SourceFault}
use Rattle.rtmfp_cli.specs.Run.{Finishes, PassesOn}
use Rattle.rtmfp_cli.proofs.top_call.finish.Goals as goal

-- all statuses but the two
others : (s result : RunStatus) (before after : SinkSeen) → (s ≡ SinkFault → ⊥) → (s ≡ SourceFault → ⊥) → PassesOn s result before after → Finishes s result before after
others SinkFault result before after sink source passes = absurd (sink refl)
others SourceFault result before after sink source passes = absurd (source refl)
others _ result before after sink source passes = passes

pub returns-in_default : goal.returns-in_default
returns-in_default g c = others c.args.status c.pass_on.result _ _ c.in_default.not-SinkFault c.in_default.not-SourceFault c.pass_on.ensures
