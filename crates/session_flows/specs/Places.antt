-- Receiving flows by their indices.
use Prim.Native.Nat.{suc}
use Rattle.std.specs.Prelude.{ℕ, ◌≡◌, ◌+◌, ◌==◌, ◌<◌, nat_lt, if◌then◌else◌, List, [], ◌∷◌, Option}
use Rattle.std.specs.Prelude.{Some, None, length, slice_get, slice_set}
use Rattle.session_flows.specs.declared.taking.TakingFlow.{TakingFlow}
use Rattle.session_flows.specs.Keeping.{in_taking, changed}

-- the index of the flow of an ID, where the first one has this index
abbrev pub index_from : ℕ → ℕ → List TakingFlow → Option ℕ
index_from n id [] = None
index_from n id (t ∷ later) = if t.id == id then Some n else index_from (n + 1) id later

-- the flow of an ID is the one at an index
pub record IsAt (id : ℕ) (taking : List TakingFlow) (at : ℕ) : Type 0 where
  pub within : at < length taking
  pub found : in_taking id taking ≡ slice_get taking at
  pub change : (f : TakingFlow → TakingFlow) (t : TakingFlow) → slice_get taking at ≡ Some t →
      changed f id taking ≡ slice_set taking at (f t)

-- the index at which a flow of an ID is put in
abbrev pub place_of : ℕ → List TakingFlow → ℕ
place_of id [] = 0
place_of id (t ∷ later) = if nat_lt id t.id then 0 else suc (place_of id later)
