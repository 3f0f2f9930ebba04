-- When what a receiver keeps stands for the chunks that it took and the messages that it handed
-- over.
use Rattle.std.specs.Prelude.{ℕ, ◌≡◌, if◌then◌else◌, List, [], ◌∷◌, Option, Some, None}
use Rattle.std.specs.List.{filter}
use Rattle.rtmfp_data_chunks.specs.Fragments.{Message}
use Rattle.rtmfp_data_chunks.specs.Runs.{Chunk, highest, missing_of, runs_of, is_kept}
use Rattle.flow_recv.specs.Receiver.{Receiver, lacks, Apart, FromZero}

-- the number of the newest chunk that was marked last
abbrev pub last_of : List Chunk → Option ℕ
last_of [] = None
last_of (c ∷ earlier) = if c.last then Some c.seq else last_of earlier

pub record StandsFor (r : Receiver) (chunks : List Chunk) (handed : List Message) : Type 0 where
  pub spans : (n : ℕ) → lacks r.spans n ≡ missing_of chunks n
  pub apart : Apart r.spans
  pub from_zero : FromZero r.spans
  pub runs : r.runs ≡ filter (is_kept chunks handed) (runs_of chunks)
  pub last : r.last ≡ last_of chunks
  pub highest : r.highest ≡ highest chunks
