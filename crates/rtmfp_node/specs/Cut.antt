-- What a turn leaves that isn't taken whole.
use Rattle.std.specs.Prelude.{◌≡◌, ◌⊎◌, ℕ, ◌+◌, ◌<◌, ◌≤◌, List, [], ◌∷◌, ◌++◌, drop, length, take, IsSome}
use Rattle.rtmfp_host.specs.Linking.{next_given}
use Rattle.rtmfp_host.specs.Ticking.{next_moment, after_moment}
use Rattle.rtmfp_host.specs.Drawing.{next_block}
use Rattle.rtmfp_host.specs.Writing.{Appends}
use Rattle.rtmfp_host.specs.declared.link.LinkCall.{LinkCall}
use Rattle.rtmfp_host.specs.declared.link.LinkCall.TheVariants.{Receive}
use Rattle.endpoint_model.specs.Event.{Event}
use Rattle.endpoint_model.specs.State.{State}
use Rattle.endpoint_model.specs.Views.{Sending}
use Rattle.rtmfp_words.specs.Node.{Serving}
use Rattle.rtmfp_node.specs.declared.served.Served.{Served}
use Rattle.rtmfp_node.specs.declared.served.Served.TheVariants.{Done, Memory, LinkFault, SinkFault, EntropyFault}
use Rattle.rtmfp_node.specs.Outside.{Told}
use Rattle.rtmfp_node.specs.Events.{AreWholeEvents, AreZeroEvents, ExtendsBy, advance_call, draws_of, entries_of}
use Rattle.rtmfp_node.specs.declared.sending.Front.{Front}
use Rattle.rtmfp_node.specs.Reached.{Reached, at_first}
use Rattle.rtmfp_node.specs.Report.{events_text, front_of, unsent_text}
use Rattle.rtmfp_node.specs.Turn.{AreSends, after_draws, after_wait, outs_in, secrets_of, until_of}

-- A draw and a moment were had, and the receive failed: it took no place. Nothing was written.
abbrev pub after_fault : Told → Told
after_fault before = record {
  line = record {
    left = before.line.left;
    calls = before.line.calls ++ Receive (until_of (next_moment before.clock)) ∷ [];
  };
  clock = after_moment before.clock;
  blocks = drop 1 before.blocks;
  text = before.text;
}

-- sends of the first of these datagrams
abbrev pub AreFirstSends : List Sending → List LinkCall → Type 0
AreFirstSends outs sends = (first rest : List Sending) × (outs ≡ first ++ rest) ×
    AreSends first sends

-- What is written of the lines of these sends: those of all but the last one whole, and a part of
-- that one's. So the line of a lost datagram is written before the next datagram is sent.
pub record LinesSoFar (front : Front) (count : ℕ) (sends : List LinkCall) (lines : List ℕ)
    : Type 0 where
  pub earlier : List LinkCall
  pub last : List LinkCall
  pub all : sends ≡ earlier ++ last
  pub one : length last ≤ 1
  pub k : ℕ
  pub part : lines ≡ take k (unsent_text front count sends)
  pub whole : length (unsent_text front count earlier) ≤ k

-- A part of the report, and nothing was sent yet; or the whole report, and the lines so far of what
-- was sent.
abbrev pub IsPart : Front → ℕ → List ℕ → List LinkCall → List ℕ → Type 0
IsPart front count report sends part =
    ((sends ≡ []) × (k : ℕ) × (part ≡ take k report)) ⊎
    ((lines : List ℕ) × LinesSoFar front count sends lines × (part ≡ report ++ lines))

-- After what was had before, the writing of this report or the sending of a turn with these events
-- was broken off.
pub record Breaks (front : Front) (count : ℕ) (report : List ℕ) (before after : Told)
    (log : List Event) : Type 0 where
  pub sends : List LinkCall
  pub sent : AreFirstSends (outs_in (entries_of log)) sends
  pub left : after.line.left ≡ before.line.left
  pub calls : after.line.calls ≡ before.line.calls ++ sends
  pub clock : after.clock ≡ before.clock
  pub blocks : after.blocks ≡ before.blocks
  pub part : List ℕ
  pub text : Appends before.text after.text part
  pub is_part : IsPart front count report sends part

-- A turn that an end began in s made all its calls, and was broken off then.
pub record Broken (v : Serving) (turn : ℕ) (far : Reached) (s : State) (before after : Told)
    : Type 0 where
  pub log : List Event
  pub left : State
  pub events : AreWholeEvents v.advance turn v.send (next_given before.line.left)
      (next_moment (after_moment before.clock)) (draws_of (next_block before.blocks)) log
  pub stands : ExtendsBy s left log
  pub breaks : Breaks (front_of v.journal turn) far.sent
      (events_text v.journal (secrets_of v) turn far log) (after_wait before) after log

-- the same of turn 0, which waits for nothing, with what stands in front of its lines
pub record BrokenAtZero (v : Serving) (head : List ℕ) (s : State) (before after : Told)
    : Type 0 where
  pub log : List Event
  pub left : State
  pub events : AreZeroEvents v.next v.openings (next_moment before.clock) before.blocks log
  pub stands : ExtendsBy s left log
  pub breaks : Breaks (front_of v.journal 0) 0
      (head ++ events_text v.journal (secrets_of v) 0 at_first log)
      (after_draws (length v.openings) before) after log

-- The turn is that of the advance.
abbrev pub Advances : Serving → ℕ → Type 0
Advances v turn = IsSome (advance_call v.advance turn)

-- How a turn, which an end began in s, ends with each fault, and for want of memory. Before the draw
-- nothing is had from outside, so all there is as it was where the draw fails, or where the advance
-- found no memory.
abbrev pub CutBy : Served → Serving → ℕ → Reached → State → Told → Told → Type 0
CutBy Done v turn far s before after = ⊥
CutBy Memory v turn far s before after =
    (Advances v turn × (after ≡ before)) ⊎
    ((after ≡ after_wait before) ⊎ Broken v turn far s before after)
CutBy LinkFault v turn far s before after = after ≡ after_fault before
CutBy EntropyFault v turn far s before after = after ≡ before
CutBy SinkFault v turn far s before after = Broken v turn far s before after

-- Turn 0 made some of its openings, and then a draw failed: it took no block.
abbrev pub DrawFails : Serving → Told → Told → Type 0
DrawFails v before after =
    (made : ℕ) × (made < length v.openings) × (after ≡ after_draws made before)

-- Turn 0 made some of its openings, and found no memory for the next one, whose block was drawn.
abbrev pub OpenFails : Serving → Told → Told → Type 0
OpenFails v before after =
    (made : ℕ) × (made < length v.openings) × (after ≡ after_draws (made + 1) before)

-- Turn 0 looked at the clock, and found no memory for the learn.
abbrev pub LearnFails : Serving → Told → Told → Type 0
LearnFails v before after = IsSome v.next × (after ≡ after_draws 0 before)

-- how turn 0 ends; it waits for nothing
abbrev pub CutAtZero : Served → Serving → List ℕ → State → Told → Told → Type 0
CutAtZero Done v head s before after = ⊥
CutAtZero Memory v head s before after =
    LearnFails v before after ⊎ (OpenFails v before after ⊎ BrokenAtZero v head s before after)
CutAtZero LinkFault v head s before after = ⊥
CutAtZero EntropyFault v head s before after = DrawFails v before after
CutAtZero SinkFault v head s before after = BrokenAtZero v head s before after
