-- What of a user data chunk a receiver looks at.
use Rattle.rtmfp_data_chunks.specs.declared.user_data.UserData.{UserData}
use Rattle.rtmfp_data_chunks.specs.Runs.{Chunk}

abbrev pub chunk_of : UserData → Chunk
chunk_of c = record {
  part = c.part;
  abandon = c.abandon;
  last = c.last;
  seq = c.seq;
  forward = c.forward;
  bytes = c.bytes.now;
}
