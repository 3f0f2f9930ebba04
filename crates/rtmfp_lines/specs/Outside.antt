-- What a run sees of the outside.
use Rattle.std.specs.Prelude.{◌≡◌}
use Rattle.rtmfp_host.specs.Faults.{Rose}
use Rattle.rtmfp_host.specs.Seen.{SinkSeen, SourceSeen}

-- the source and the sink
pub record Outside : Type 0 where
  pub source : SourceSeen
  pub sink : SinkSeen

abbrev pub outside : SourceSeen → SinkSeen → Outside
outside source sink = record { source = source; sink = sink }

-- nothing has failed
pub record NothingFailed (before after : Outside) : Type 0 where
  pub source : after.source.faults ≡ before.source.faults
  pub sink : after.sink.faults ≡ before.sink.faults

-- the source has failed, and the sink has not
pub record SourceFailed (before after : Outside) : Type 0 where
  pub rose : Rose before.source.faults after.source.faults
  pub sink : after.sink.faults ≡ before.sink.faults

-- the sink has failed, and the source has not
pub record SinkFailed (before after : Outside) : Type 0 where
  pub rose : Rose before.sink.faults after.sink.faults
  pub source : after.source.faults ≡ before.source.faults

-- all that the sink took was passed on, and it has not failed
pub record Settled (before after : SinkSeen) : Type 0 where
  pub passed : after.passed ≡ after.written
  pub faults : after.faults ≡ before.faults
