-- What stands under a session ID, by what is kept.
use Rattle.std.specs.Prelude.{ℕ, List, Option, Some, None}
use Rattle.std.specs.FinMap.{get}
use Rattle.glare_core.specs.declared.facts.Held.{Held}
use Rattle.glare_core.specs.declared.facts.Held.TheVariants.{Opening, HalfOpen, KeptAsResponder, KeptAsInitiator}
use Rattle.glare_core.specs.declared.facts.Joined.{Joined}
use Rattle.glare_core.specs.Ledger.{row_in}
use Rattle.fact_digest.specs.Roll.{Rolled}
use Rattle.endpoint_model.specs.Keying.{initiator_part}
use Rattle.log_digest.specs.declared.spot.Spot.{Spot}
use Rattle.log_digest.specs.declared.spot.Spot.TheVariants.{Searching, Holding, Closing}
use Rattle.log_digest.specs.Kept.{Digested}
use Rattle.log_outs.specs.declared.attempts.Attempt.{Attempt}

-- what is held or closing
abbrev pub standing_in : Rolled → Option Spot → Option Held
standing_in roll None = None
standing_in roll (Some (Searching name tag ni at)) = None
standing_in roll (Some (Holding peer at)) = (row_in roll.rows peer).held
standing_in roll (Some (Closing thing at)) = Some thing

abbrev pub standing_at : ℕ → Digested → Option Held
standing_at near d = standing_in d.roll (get d.spots near)

-- the attempt with this peer, where this is one: the peer, and the component of its keying
abbrev pub attempt_in : List ℕ → Option Held → Option Attempt
attempt_in peer None = None
attempt_in peer (Some (Opening n near ni)) =
    Some (record { peer = peer; part = initiator_part ni n peer })
attempt_in peer (Some (HalfOpen j)) = None
attempt_in peer (Some (KeptAsResponder j)) = None
attempt_in peer (Some (KeptAsInitiator j)) = None

-- the one that is held
abbrev pub attempt_under : Rolled → Option Spot → Option Attempt
attempt_under roll None = None
attempt_under roll (Some (Searching name tag ni at)) = None
attempt_under roll (Some (Holding peer at)) = attempt_in peer (row_in roll.rows peer).held
attempt_under roll (Some (Closing thing at)) = None

abbrev pub attempt_at : ℕ → Digested → Option Attempt
attempt_at near d = attempt_under d.roll (get d.spots near)

-- a session that was born here
abbrev pub born_in : Option Held → Option Joined
born_in None = None
born_in (Some (Opening n near ni)) = None
born_in (Some (HalfOpen j)) = Some j
born_in (Some (KeptAsResponder j)) = Some j
born_in (Some (KeptAsInitiator j)) = None

-- the one that is held
abbrev pub born_under : Rolled → Option Spot → Option Joined
born_under roll None = None
born_under roll (Some (Searching name tag ni at)) = None
born_under roll (Some (Holding peer at)) = born_in (row_in roll.rows peer).held
born_under roll (Some (Closing thing at)) = None

abbrev pub born_at : ℕ → Digested → Option Joined
born_at near d = born_under d.roll (get d.spots near)
