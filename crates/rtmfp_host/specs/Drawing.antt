-- The blocks that a random source has still to give, where it tells them.
use Rattle.std.specs.Prelude.{◌≡◌, ℕ, List, [], ◌∷◌, drop, replicate, Option, Some, None}
use Rattle.rtmfp_host.specs.declared.entropy.Drawn.{Drawn}
use Rattle.rtmfp_host.specs.declared.entropy.Drawn.TheVariants.{Done, Failed}

-- of a random source: the blocks that are left, and how often it has failed
pub record EntropySeen : Type 0 where
  pub blocks : Option (List (List ℕ))
  pub faults : ℕ

-- an empty list gives zeros
abbrev pub next_block : List (List ℕ) → List ℕ
next_block [] = replicate 64 0
next_block (block ∷ left) = block

-- what one draw does: it gives the first block; one that fails takes none
abbrev pub DrawsFrom : Option (List (List ℕ)) → Option (List (List ℕ)) → Drawn → List ℕ → Type 0
DrawsFrom before None drawn block = Unit {0}
DrawsFrom None (Some now) drawn block = ⊥
DrawsFrom (Some before) (Some now) Done block =
    (block ≡ next_block before) × (now ≡ drop 1 before)
DrawsFrom (Some before) (Some now) Failed block = now ≡ before
