-- What a flow owes of the messages that it hands over.
use Rattle.std.specs.Prelude.{ℕ, ◌≡◌, ◌<◌, ◌⊎◌, List, [], ◌∷◌}
use Rattle.rtmfp_data_chunks.specs.Fragments.{Message}

-- x is one of the list
abbrev pub IsIn : {X : Type 0} → X → List X → Type 0
IsIn x [] = ⊥
IsIn x (y ∷ ys) = (x ≡ y) ⊎ IsIn x ys

-- the numbers rise
abbrev pub Rise : List Message → Type 0
Rise [] = Unit {0}
Rise (m ∷ ms) = ((later : Message) → IsIn later ms → m.number < later.number) × Rise ms

-- no two have one number
abbrev pub Differ : List Message → Type 0
Differ [] = Unit {0}
Differ (m ∷ ms) = ((other : Message) → IsIn other ms → m.number ≡ other.number → ⊥) × Differ ms

-- whole, at most once, in queueing order, skipping only abandoned ones
pub record HandsOver (queued : List Message) (abandoned : List ℕ) (handed : List Message)
    : Type 0 where
  pub rise : Rise handed
  pub were_queued : (m : Message) → IsIn m handed → IsIn m queued
  pub skipped : (m later : Message) → IsIn m queued → IsIn later handed → m.number < later.number →
      (IsIn m handed → ⊥) → IsIn m.number abandoned

-- whole, at most once
pub record HandsOnce (queued : List Message) (handed : List Message) : Type 0 where
  pub differ : Differ handed
  pub were_queued : (m : Message) → IsIn m handed → IsIn m queued
