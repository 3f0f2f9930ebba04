-- What a node sees of its outside: what is told of it, and which of its counts rise.
use Rattle.std.specs.Prelude.{◌≡◌, ℕ, List, Option, Some}
use Rattle.rtmfp_host.specs.Faults.{Rose}
use Rattle.rtmfp_host.specs.Linking.{Line, LinkSeen}
use Rattle.rtmfp_host.specs.Ticking.{Clock}
use Rattle.rtmfp_host.specs.Drawing.{EntropySeen}
use Rattle.rtmfp_host.specs.Seen.{SinkSeen}
use Rattle.rtmfp_node.specs.declared.served.Served.{Served}
use Rattle.rtmfp_node.specs.declared.served.Served.TheVariants.{Done, Memory, LinkFault, SinkFault, EntropyFault}

-- the link, the clock, the random source and the sink
pub record Outside : Type 0 where
  pub link : LinkSeen
  pub clock : Option Clock
  pub entropy : EntropySeen
  pub sink : SinkSeen

abbrev pub outside : LinkSeen → Option Clock → EntropySeen → SinkSeen → Outside
outside link clock entropy sink =
    record { link = link; clock = clock; entropy = entropy; sink = sink }

-- ---- what is told

-- what the link has still to give and the calls of it, the moments and the blocks that are still to
-- come, and the text that was written, where that is told
pub record Told : Type 0 where
  pub line : Line
  pub clock : Clock
  pub blocks : List (List ℕ)
  pub text : Option (List ℕ)

-- The link, the clock and the random source tell, and it is this. The sink may tell nothing.
pub record Tells (o : Outside) (all : Told) : Type 0 where
  pub line : o.link.line ≡ Some all.line
  pub clock : o.clock ≡ Some all.clock
  pub blocks : o.entropy.blocks ≡ Some all.blocks
  pub text : o.sink.written ≡ all.text

-- Where those three tell in the end, they told at the beginning, and this holds of what was told.
pub record Leaves (P : Told → Told → Type 0) (before after : Outside) : Type 0 where
  pub back : (now : Told) → Tells after now → (was : Told) × Tells before was × P was now

-- ---- faults, and what is passed on

abbrev pub Stays : ℕ → ℕ → Type 0
Stays before now = now ≡ before

-- what became of the counts of faults; that of sends that failed is not among them
pub record Counts (OfLink OfEntropy OfSink : ℕ → ℕ → Type 0) (before after : Outside) : Type 0 where
  pub link : OfLink before.link.faults after.link.faults
  pub entropy : OfEntropy before.entropy.faults after.entropy.faults
  pub sink : OfSink before.sink.faults after.sink.faults

-- a fault is answered where the count of its object rose, and no other rose
abbrev pub Counted : Served → Outside → Outside → Type 0
Counted Done before after = Counts Stays Stays Stays before after
Counted Memory before after = Counts Stays Stays Stays before after
Counted LinkFault before after = Counts Rose Stays Stays before after
Counted EntropyFault before after = Counts Stays Rose Stays before after
Counted SinkFault before after = Counts Stays Stays Rose before after

-- All that was written is passed on, where it was before.
abbrev pub IsPassedOn : SinkSeen → SinkSeen → Type 0
IsPassedOn before after = before.passed ≡ before.written → after.passed ≡ after.written

abbrev pub PassesOn : Served → Outside → Outside → Type 0
PassesOn Done before after = IsPassedOn before.sink after.sink
PassesOn Memory before after = IsPassedOn before.sink after.sink
PassesOn LinkFault before after = IsPassedOn before.sink after.sink
PassesOn EntropyFault before after = IsPassedOn before.sink after.sink
PassesOn SinkFault before after = Unit {0}
