-- The ack that a receiver writes is one that it tells: all of the pairs that fit.
use Rattle.std.specs.Prelude.{ℕ, ◌≡◌, length}
use Rattle.flow_recv.specs.Receiver.{Receiver, through_in}
use Rattle.flow_recv.specs.Acking.{spans_in, later_spans}
use Rattle.flow_exchange.specs.Exchange.{Ack}
use Rattle.flow_exchange.specs.Pair.{ack_by}

-- what is written in so many bytes
abbrev pub written_in : ℕ → Receiver → Ack
written_in room r = record {
  upto = through_in r;
  spans = spans_in room (through_in r) (later_spans r.spans);
}

-- how many pairs these are
abbrev pub pairs_in : ℕ → Receiver → ℕ
pairs_in room r = length (spans_in room (through_in r) (later_spans r.spans))

abbrev pub WhatIsWrittenIsTold : Type 0
WhatIsWrittenIsTold = (r : Receiver) (room : ℕ) → written_in room r ≡ ack_by r (pairs_in room r)
