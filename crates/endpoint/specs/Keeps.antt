-- Whether an end keeps a session with a peer.
use Rattle.std.specs.Prelude.{ℕ, Bool, true, false, List, Option, Some, None}
use Rattle.glare_core.specs.declared.facts.Held.{Held}
use Rattle.glare_core.specs.declared.facts.Held.TheVariants.{Opening, HalfOpen, KeptAsResponder}
use Rattle.glare_core.specs.declared.facts.Held.TheVariants.{KeptAsInitiator}
use Rattle.glare_core.specs.Ledger.{held_with}
use Rattle.endpoint_model.specs.State.{State}

-- a session is kept from its Opened, or from the Confirmed after its Born
abbrev pub is_kept : Option Held → Bool
is_kept None = false
is_kept (Some (Opening n near ni)) = false
is_kept (Some (HalfOpen j)) = false
is_kept (Some (KeptAsResponder j)) = true
is_kept (Some (KeptAsInitiator j)) = true

abbrev pub keeps : State → List ℕ → Bool
keeps s peer = is_kept (held_with s.startup.ledger peer)
