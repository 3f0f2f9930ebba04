-- Which attempt or search has the lowest session ID of those with a tag, by what is kept.
use Rattle.std.specs.Prelude.{ℕ, List, ◌≡◌, ◌≤◌, Bool, true, false, nat_lt, ◌&&◌, Option, Some, None}
use Rattle.std.specs.FinMap.{get}
use Rattle.std.specs.Str.{bytes_eq}
use Rattle.glare_core.specs.declared.facts.Held.{Held}
use Rattle.glare_core.specs.declared.facts.Held.TheVariants.{Opening, HalfOpen, KeptAsResponder, KeptAsInitiator}
use Rattle.glare_core.specs.Ledger.{row_in}
use Rattle.fact_digest.specs.Roll.{Rolled}
use Rattle.log_digest.specs.declared.spot.Spot.{Spot}
use Rattle.log_digest.specs.declared.spot.Spot.TheVariants.{Searching, Holding, Closing}
use Rattle.log_digest.specs.Kept.{Digested}
use Rattle.log_contexts.specs.declared.threads.Thread.{Thread}
use Rattle.log_contexts.specs.Kept.{ThreadTable, tag_at}

abbrev pub is_attempt : Option Held → Bool
is_attempt None = false
is_attempt (Some (Opening n near ni)) = true
is_attempt (Some (HalfOpen j)) = false
is_attempt (Some (KeptAsResponder j)) = false
is_attempt (Some (KeptAsInitiator j)) = false

-- whether what stands is an attempt or a search
abbrev pub underway_in : Rolled → Option Spot → Bool
underway_in roll None = false
underway_in roll (Some (Searching name tag ni at)) = true
underway_in roll (Some (Holding peer at)) = is_attempt (row_in roll.rows peer).held
underway_in roll (Some (Closing thing at)) = false

abbrev pub is_underway : Digested → ℕ → Bool
is_underway d near = underway_in d.roll (get d.spots near)

-- Of the attempts and searches with this tag none has a lower session ID than this one.
abbrev pub IsLowest : ThreadTable → Digested → List ℕ → ℕ → Type 0
IsLowest threads d tag near = (other : ℕ) → is_underway d other ≡ true →
    tag_at other threads ≡ Some tag → near ≤ other

-- Whether it is so.
pub record TellsLowest (threads : ThreadTable) (d : Digested) (tag : List ℕ) (near : ℕ)
    (it : Bool) : Type 0 where
  pub yes : it ≡ true → IsLowest threads d tag near
  pub no : IsLowest threads d tag near → it ≡ true

-- ---- one of them

abbrev pub is_tag : Option (List ℕ) → List ℕ → Bool
is_tag None tag = false
is_tag (Some its) tag = bytes_eq its tag

abbrev pub has_tag : Thread → List ℕ → Bool
has_tag thread tag = is_tag thread.tag tag

-- whether it is an attempt or a search with this tag, and has a lower session ID
abbrev pub is_before : Digested → ℕ → List ℕ → ℕ → Thread → Bool
is_before d near tag other thread =
    nat_lt other near && (has_tag thread tag && is_underway d other)
