-- What an end does of its own accord: acks, and what time makes due.
use Rattle.endpoint_handing.proofs.Kept.{End}
use Rattle.endpoint_laws.proofs.Small.{Timed}
use Rattle.endpoint_handing.proofs.Items.{IsBare, DoesAlways, quiet_does}
use Rattle.endpoint_handing.proofs.Owed.{FlowsHand}

-- what is to be shown of flows is what the law asks of them
pub timed_does : (e : End) → FlowsHand e → Timed IsBare (DoesAlways e)
timed_does e owed = record {
  quiet = quiet_does e;
  acks = λ s near row there some facts. owed.acks facts s near row there some;
  owes_none = λ s near row there facts. owed.unowed facts s near row there;
  loses = λ s near row there facts. owed.late facts s near row there;
  abandons = λ s near row flow seq there due facts. owed.abandoned facts s near row there flow seq due;
  packs = λ s near row there facts. owed.sent facts s near row there;
}
