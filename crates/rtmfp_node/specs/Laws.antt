-- What holds of each run of a node.
use Rattle.std.specs.Prelude.{◌≡◌, ℕ, zero, suc, drop, length}
use Rattle.rtmfp_host.specs.Ticking.{Clock, after_moment}
use Rattle.rtmfp_words.specs.Node.{Serving}
use Rattle.rtmfp_node.specs.declared.served.Served.{Served}
use Rattle.rtmfp_node.specs.declared.served.Served.TheVariants.{Done, Memory, LinkFault, SinkFault, EntropyFault}
use Rattle.rtmfp_node.specs.Outside.{Outside, Tells, Told}
use Rattle.rtmfp_node.specs.Whole.{CutRun, Ends, Ran}

-- after the moments of so many turns
abbrev pub after_turns : ℕ → Clock → Clock
after_turns zero clock = clock
after_turns (suc n) clock = after_moment (after_moment (after_turns n clock))

-- A run of so many turns takes a place of the link a turn; a block at its begin, one for each opening
-- and one a turn; and a moment before the turns and two a turn.
pub record Takes (v : Serving) (turns : ℕ) (before after : Told) : Type 0 where
  pub left : after.line.left ≡ drop turns before.line.left
  pub blocks : after.blocks ≡ drop turns (drop (length v.openings) (drop 1 before.blocks))
  pub clock : after.clock ≡ after_turns turns (after_moment before.clock)

abbrev pub EachRunTakesItsPlaces : Type 0
EachRunTakesItsPlaces = (v : Serving) (turns : ℕ) (before after : Told) → Ran v turns before after →
    Takes v turns before after

-- A node that is done has taken all its turns: whatever is told in the end, this was told before it.
abbrev pub EachDoneRunIsWhole : Type 0
EachDoneRunIsWhole = (v : Serving) (before after : Outside) (now : Told) → Ends Done v before after →
    Tells after now → (was : Told) × Tells before was × Ran v v.turns was now

-- A node that ends with this was cut so.
abbrev pub CutsWith : Served → Type 0
CutsWith served = (v : Serving) (before after : Outside) (now : Told) → Ends served v before after →
    Tells after now → (was : Told) × Tells before was × CutRun served v was now

pub record EachOtherRunIsCut : Type 0 where
  pub memory : CutsWith Memory
  pub link : CutsWith LinkFault
  pub entropy : CutsWith EntropyFault
  pub sink : CutsWith SinkFault
