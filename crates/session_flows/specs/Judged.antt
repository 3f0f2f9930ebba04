-- What was found of a chunk that nothing refuses, before it is taken.
use Rattle.std.specs.Prelude.{◌≡◌, ◌<◌, None, length}
use Rattle.rtmfp_data_chunks.specs.Chunk.{UserParts}
use Rattle.session_flows.specs.declared.judged.JudgedData.{JudgedData}
use Rattle.session_flows.specs.Keeping.{FlowsState}
use Rattle.session_flows.specs.Causes.{receiver_cause}
use Rattle.session_flows.specs.Chunks.{most_ready}
use Rattle.session_flows.specs.Places.{index_from}

-- A data chunk: its flow has this index, or isn't there, and it hands over so many messages at
-- most. The receiver takes it, and where it makes the flow there is room for one.
pub record IsJudged (judged : JudgedData) (s : FlowsState) (user : UserParts) : Type 0 where
  pub at : judged.at ≡ index_from 0 user.flow s.taking
  pub most : judged.most ≡ most_ready s user.flow
  pub takes : receiver_cause s user ≡ None
  pub room : judged.at ≡ None → length s.taking < 256
