-- The end of a run.
use Rattle.std.specs.Prelude.{◌≡◌, ◌⊎◌, []}
use Rattle.rtmfp_host.specs.Faults.{Rose}
use Rattle.rtmfp_host.specs.Writing.{Appends}
use Rattle.rtmfp_lines.specs.declared.status.Status.{Status as RunStatus}
use Rattle.rtmfp_lines.specs.declared.status.Status.TheVariants.{SinkFault, SourceFault}
use Rattle.rtmfp_host.specs.Seen.{SinkSeen}
use Rattle.rtmfp_lines.specs.Outside.{Settled}

-- all that the sink held was passed on, and the status stays; or the sink failed there
pub record PassesOn (status result : RunStatus) (before after : SinkSeen) : Type 0 where
  pub written : Appends before.written after.written []
  pub answer : ((result ≡ status) × Settled before after) ⊎
      ((result ≡ SinkFault) × Rose before.faults after.faults)

-- Where the outside has failed nothing more is done.
pub record Stays (status result : RunStatus) (before after : SinkSeen) : Type 0 where
  pub same : result ≡ status
  pub sink : after ≡ before

-- what the end of a run over lines does to a status
abbrev pub Finishes : RunStatus → RunStatus → SinkSeen → SinkSeen → Type 0
Finishes SinkFault result before after = Stays SinkFault result before after
Finishes SourceFault result before after = Stays SourceFault result before after
Finishes status result before after = PassesOn status result before after
