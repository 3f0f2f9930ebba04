-- Of each tag, the session ID under which alone something began with it.
use Rattle.std.specs.Prelude.{ℕ, List, ◌≡◌, ◌==◌, Option, Some, None, cond, if◌then◌else◌}
use Rattle.std.specs.Map.{lookup}
use Rattle.std.specs.Str.{bytes_eq}
use Rattle.log_contexts.specs.Kept.{ThreadTable, tag_at}

-- the tags, each with that session ID, or with none where there were several
abbrev pub AloneTable : Type 0
AloneTable = List (List ℕ × Option ℕ)

-- what is kept of a tag with which something begins under this session ID
abbrev pub noted : ℕ → Option (Option ℕ) → Option ℕ
noted near None = Some near
noted near (Some None) = None
noted near (Some (Some other)) = if other == near then Some near else None

-- Something began under this session ID with this tag.
pub record HasNoted (near : ℕ) (tag : List ℕ) (old new : AloneTable) : Type 0 where
  pub of : (other : List ℕ) → lookup (bytes_eq other) new
      ≡ cond (bytes_eq tag other) (Some (noted near (lookup (bytes_eq tag) old)))
      (lookup (bytes_eq other) old)

-- What has the tag of which this is kept may be under this session ID.
abbrev pub MayBe : ℕ → Option (Option ℕ) → Type 0
MayBe near None = ⊥
MayBe near (Some None) = Unit {0}
MayBe near (Some (Some other)) = near ≡ other

-- What is kept of tags is so of all that began last under session IDs.
pub record AreAlone (threads : ThreadTable) (alone : AloneTable) : Type 0 where
  pub may : (near : ℕ) (tag : List ℕ) → tag_at near threads ≡ Some tag →
      MayBe near (lookup (bytes_eq tag) alone)
