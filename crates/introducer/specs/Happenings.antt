-- The sessions of an introducer as they were kept and went, and what is said of all of them.
use Rattle.std.specs.Prelude.{◌≡◌, ℕ, ◌==◌, ◌&&◌, not, if◌then◌else◌, List, [], ◌∷◌, Option, Some, None}
use Rattle.std.specs.List.{list_any}
use Rattle.std.specs.Str.{bytes_eq}
use Rattle.std.specs.FinMap.{empty}
use Rattle.introducer.specs.Directory.{KeptIds, last_kept, with_id, without_id}

pub data Happening : Type 0 where
  Keeps : (print : List ℕ) → (near : ℕ) → Happening
  Goes : (near : ℕ) → Happening

-- what is kept after these, the newest of which stands first
abbrev pub kept_after : List Happening → KeptIds
kept_after [] = empty
kept_after (Keeps print near ∷ before) = with_id (kept_after before) print near
kept_after (Goes near ∷ before) = without_id (kept_after before) near

-- From the newest back, the first session ID that was kept with this print and hasn't gone since.
-- Those in the list have gone.
abbrev pub kept_last : List ℕ → List Happening → List ℕ → Option ℕ
kept_last gone [] print = None
kept_last gone (Goes near ∷ before) print = kept_last (near ∷ gone) before print
kept_last gone (Keeps p near ∷ before) print =
    if bytes_eq p print && not (list_any (λ id. id == near) gone) then Some near
    else kept_last gone before print

abbrev pub ForwardsToLastKept : Type 0
ForwardsToLastKept = (happened : List Happening) (print : List ℕ)
    → last_kept (kept_after happened) print ≡ kept_last [] happened print
