-- The starts and the waits of a spawner, where it tells them.
use Rattle.std.specs.Prelude.{◌≡◌, ℕ, ◌+◌, ◌≤◌, ◌==◌, ℤ, pos, Bool, true, false, if◌then◌else◌, List, [], ◌∷◌, ◌++◌, Option, Some, None, IfSome}
use Rattle.std.specs.Ordering.{int_eq}
use Rattle.std.specs.List.{list_any}
use Rattle.rtmfp_host.specs.declared.spawner.Begun.{Begun}
use Rattle.rtmfp_host.specs.declared.spawner.Begun.TheVariants.{Child, Failed, Memory}
use Rattle.rtmfp_host.specs.declared.spawner.Ran.{Ran}
use Rattle.rtmfp_host.specs.declared.spawner.Ran.TheVariants.{Ended, Failed as NotRan, Memory as NoText}
use Rattle.rtmfp_host.specs.declared.spawner.SpawnCall.{SpawnCall}
use Rattle.rtmfp_host.specs.declared.spawner.SpawnCall.TheVariants.{Start, Wait}

-- of a spawner: its starts and its waits in their order, the first status other than 0 that a wait
-- gave, and how often it has failed
pub record SpawnerSeen : Type 0 where
  pub calls : Option (List SpawnCall)
  pub status : Option ℤ
  pub faults : ℕ

-- whether this call is the start of this child
abbrev pub gave : ℕ → SpawnCall → Bool
gave child (Start words None) = false
gave child (Start words (Some number)) = number == child
gave child (Wait other status text) = false

-- whether a start among these gave this child
abbrev pub was_given : ℕ → List SpawnCall → Bool
was_given child calls = list_any (gave child) calls

abbrev pub IsStarted : Option (List SpawnCall) → ℕ → Type 0
IsStarted None child = Unit {0}
IsStarted (Some calls) child = was_given child calls ≡ true

-- the number of the child that a start gave
abbrev pub child_of : Begun → Option ℕ
child_of (Child number) = Some number
child_of Failed = None
child_of Memory = None

-- what one start does: it is told with its words and its child, whose number is new
abbrev pub Starts : Option (List SpawnCall) → Option (List SpawnCall) → List (List ℕ) → Begun →
    Type 0
Starts before None words begun = Unit {0}
Starts None (Some now) words begun = ⊥
Starts (Some before) (Some now) words begun =
    (now ≡ before ++ Start words (child_of begun) ∷ []) ×
    IfSome (child_of begun) (λ number. was_given number before ≡ false)

-- what one wait does: it is told where it gave the child's end
abbrev pub Waits : Option (List SpawnCall) → Option (List SpawnCall) → ℕ → Ran → Type 0
Waits before None child ran = Unit {0}
Waits None (Some now) child ran = ⊥
Waits (Some before) (Some now) child (Ended status text) =
    now ≡ before ++ Wait child status text ∷ []
Waits (Some before) (Some now) child NotRan = now ≡ before
Waits (Some before) (Some now) child NoText = now ≡ before

-- the first status other than 0 stays
abbrev pub kept_status : Option ℤ → ℤ → Option ℤ
kept_status (Some first) status = Some first
kept_status None status = if int_eq status (pos 0) then None else Some status

abbrev pub status_after : Option ℤ → Ran → Option ℤ
status_after kept (Ended status text) = kept_status kept status
status_after kept NotRan = kept
status_after kept NoText = kept

-- ---- in memory

-- a call was added at the end, as long as the calls are told
abbrev pub Appended : Option (List SpawnCall) → Option (List SpawnCall) → SpawnCall → Type 0
Appended before None call = Unit {0}
Appended None (Some now) call = ⊥
Appended (Some before) (Some now) call = now ≡ before ++ call ∷ []

-- the first number above the child that this call gave
abbrev pub number_after : SpawnCall → ℕ
number_after (Start words None) = 0
number_after (Start words (Some child)) = child + 1
number_after (Wait child status text) = 0

-- the child that this call gave is below n
abbrev pub IsBelow : ℕ → SpawnCall → Type 0
IsBelow n call = number_after call ≤ n
