-- The kinds of things that an end holds.
use Rattle.std.specs.Prelude.{ℕ}
use Rattle.glare_core.specs.declared.facts.Held.{Held}
use Rattle.glare_core.specs.declared.facts.Held.TheVariants.{Opening, HalfOpen, KeptAsResponder, KeptAsInitiator}

abbrev pub IsAttempt : Held → Type 0
IsAttempt (Opening n near ni) = Unit {0}
IsAttempt (HalfOpen j) = ⊥
IsAttempt (KeptAsResponder j) = ⊥
IsAttempt (KeptAsInitiator j) = ⊥

abbrev pub IsHalfOpen : Held → Type 0
IsHalfOpen (Opening n near ni) = ⊥
IsHalfOpen (HalfOpen j) = Unit {0}
IsHalfOpen (KeptAsResponder j) = ⊥
IsHalfOpen (KeptAsInitiator j) = ⊥

abbrev pub IsKept : Held → Type 0
IsKept (Opening n near ni) = ⊥
IsKept (HalfOpen j) = ⊥
IsKept (KeptAsResponder j) = Unit {0}
IsKept (KeptAsInitiator j) = Unit {0}

abbrev pub IsSession : Held → Type 0
IsSession (Opening n near ni) = ⊥
IsSession (HalfOpen j) = Unit {0}
IsSession (KeptAsResponder j) = Unit {0}
IsSession (KeptAsInitiator j) = Unit {0}

abbrev pub near_of : Held → ℕ
near_of (Opening n near ni) = near
near_of (HalfOpen j) = j.near
near_of (KeptAsResponder j) = j.near
near_of (KeptAsInitiator j) = j.near
