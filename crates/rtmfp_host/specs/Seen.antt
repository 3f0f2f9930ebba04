-- What is seen of a source and of a sink.
use Rattle.std.specs.Prelude.{ℕ, List, Option}

-- of a source: the bytes that are left, those that were left before its last read, and how often it
-- has failed
pub record SourceSeen : Type 0 where
  pub left : Option (List ℕ)
  pub asked : Option (List ℕ)
  pub faults : ℕ

-- of a sink: the bytes that it took, those of them that it passed on, and how often it has failed
pub record SinkSeen : Type 0 where
  pub written : Option (List ℕ)
  pub passed : Option (List ℕ)
  pub faults : ℕ
