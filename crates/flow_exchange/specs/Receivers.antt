-- What a receiver is by the calls that led to it.
use Rattle.std.specs.Prelude.{◌≡◌, true, false, List}
use Rattle.flow_recv.specs.Receiver.{Receiver}
use Rattle.flow_recv.specs.Reached.{Call, Receiving, at_first, all_calls, AllProper}
use Rattle.flow_exchange.specs.Stands.{StandsFor}
use Rattle.flow_exchange.specs.Receiving.{HandsInOrder, AllHanded, HandsLowest, Counts, RefusesBy}

-- proper calls led to it, it stands for the chunks that it took in them and the messages that it
-- handed over, and these tell what it hands over next, what it counts and what it refuses
pub record IsOfItsCalls (r : Receiver) : Type 0 where
  pub events : List Call
  pub proper : AllProper events
  pub whole : Receiving
  pub called : all_calls (at_first r.arriving) events ≡ whole
  pub kept : whole.receiver ≡ r
  pub stands : StandsFor r whole.chunks whole.handed
  pub in_order : r.arriving ≡ false → HandsInOrder whole
  pub arriving : r.arriving ≡ true → AllHanded whole
  pub lowest : r.arriving ≡ true → HandsLowest whole
  pub counts : Counts whole
  pub refuses : RefusesBy whole
