-- Bytes that were read and not handled yet.
use Rattle.std.specs.Prelude.{◌≡◌, ℕ, ◌+◌, ◌<◌, ◌≤◌, List, ◌++◌, length, take, Option}
use Rattle.rtmfp_host.specs.declared.source.Taken.{Taken}
use Rattle.rtmfp_host.specs.declared.source.Taken.TheVariants.{Done, End, Failed}
use Rattle.rtmfp_host.specs.Taking.{Consumes, IsAtEnd}

-- the bytes, the room behind them, and the room in all
pub record Pending : Type 0 where
  pub bytes : List ℕ
  pub room : ℕ
  pub capacity : ℕ

-- what was taken from the source, at least one byte, stands behind the bytes that were there
pub record Grows (before after : Option (List ℕ)) (old new : List ℕ) : Type 0 where
  pub got : List ℕ
  pub some : 0 < length got
  pub consumed : Consumes before after got
  pub joined : new ≡ old ++ got

abbrev pub Fills : Option (List ℕ) → Option (List ℕ) → Taken → List ℕ → List ℕ → Type 0
Fills before after (Done count) old new = Grows before after old new
Fills before after End old new = (after ≡ before) × IsAtEnd before × (new ≡ old)
Fills before after Failed old new = (after ≡ before) × (new ≡ old)

-- what was taken from the source stands behind the first `end` bytes, which stay
pub record Behind (before after : Option (List ℕ)) (end count : ℕ) (old new : List ℕ) : Type 0 where
  pub got : List ℕ
  pub some : 0 < count
  pub size : length got ≡ count
  pub fits : end + count ≤ length old
  pub consumed : Consumes before after got
  pub joined : take (end + count) new ≡ take end old ++ got

abbrev pub ReadsBehind : Option (List ℕ) → Option (List ℕ) → ℕ → Taken → List ℕ → List ℕ → Type 0
ReadsBehind before after end (Done count) old new = Behind before after end count old new
ReadsBehind before after end End old new = (after ≡ before) × IsAtEnd before ×
    (take end new ≡ take end old)
ReadsBehind before after end Failed old new = (after ≡ before) × (take end new ≡ take end old)
