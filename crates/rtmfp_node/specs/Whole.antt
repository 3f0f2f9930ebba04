-- How a run of a node ends.
use Rattle.std.specs.Prelude.{◌≡◌, ◌⊎◌, ℕ, ◌+◌, ◌<◌, List}
use Rattle.rtmfp_host.specs.Drawing.{next_block}
use Rattle.endpoint_model.specs.Event.{Event}
use Rattle.endpoint_model.specs.State.{State, fresh}
use Rattle.endpoint_model.specs.Log.{StandsFor}
use Rattle.endpoint_laws.specs.Contexts.{Secrets, Knows}
use Rattle.endpoint_laws.specs.Past.{past_of_log}
use Rattle.endpoint_laws.specs.Lawful.{IsLawful}
use Rattle.rtmfp_words.specs.Node.{Serving}
use Rattle.rtmfp_node.specs.declared.served.Served.{Served}
use Rattle.rtmfp_node.specs.declared.served.Served.TheVariants.{Done, Memory, LinkFault, SinkFault, EntropyFault}
use Rattle.rtmfp_node.specs.Outside.{Outside, Told, Leaves}
use Rattle.rtmfp_node.specs.Reached.{at_first, reached_after}
use Rattle.rtmfp_node.specs.Turn.{Run, after_bind, head_of, setup_of}
use Rattle.rtmfp_node.specs.Cut.{CutAtZero, CutBy}

-- ---- runs

-- A run of so many turns, with a log that the end stands for in the end, and that is lawful for
-- whatever secrets of a group among which those are that the end was given and learnt.
pub record Ran (v : Serving) (turns : ℕ) (before after : Told) : Type 0 where
  pub log : List Event
  pub state : State
  pub run : Run v turns before after log
  pub stands : StandsFor (setup_of v (next_block before.blocks)) log state
  pub lawful : (secrets : Secrets) → Knows secrets (setup_of v (next_block before.blocks))
      (past_of_log log) → IsLawful secrets (setup_of v (next_block before.blocks)) log

-- How a run ends before turn 0 is done. A random source that fails has failed at the first draw, and
-- then all is as it was, or at that of an opening, after the bind. A bind that fails comes after the
-- first draw, and nothing comes after it; the same is so where no memory is found to begin an end.
-- Else turn 0 was cut, after the first draw and the bind.
abbrev pub CutAtStart : Served → Serving → Told → Told → Type 0
CutAtStart Done v before after = ⊥
CutAtStart LinkFault v before after = after ≡ after_bind v before
CutAtStart EntropyFault v before after = (after ≡ before) ⊎
    CutAtZero EntropyFault v (head_of v (next_block before.blocks))
    (fresh (setup_of v (next_block before.blocks))) (after_bind v before) after
CutAtStart Memory v before after = (after ≡ after_bind v before) ⊎
    CutAtZero Memory v (head_of v (next_block before.blocks))
    (fresh (setup_of v (next_block before.blocks))) (after_bind v before) after
CutAtStart SinkFault v before after =
    CutAtZero SinkFault v (head_of v (next_block before.blocks))
    (fresh (setup_of v (next_block before.blocks))) (after_bind v before) after

-- Turn 0 and some turns were taken whole, and the next one was cut.
pub record CutLater (result : Served) (v : Serving) (before after : Told) : Type 0 where
  pub turns : ℕ
  pub fewer : turns < v.turns
  pub middle : Told
  pub ran : Ran v turns before middle
  pub cut : CutBy result v (turns + 1) (reached_after at_first ran.log) ran.state middle after

abbrev pub CutRun : Served → Serving → Told → Told → Type 0
CutRun result v before after = CutAtStart result v before after ⊎ CutLater result v before after

-- How a run ends, where its link, its clock and its random source tell; its text, where the sink does.
abbrev pub Ends : Served → Serving → Outside → Outside → Type 0
Ends Done v before after = Leaves (Ran v v.turns) before after
Ends Memory v before after = Leaves (CutRun Memory v) before after
Ends LinkFault v before after = Leaves (CutRun LinkFault v) before after
Ends EntropyFault v before after = Leaves (CutRun EntropyFault v) before after
Ends SinkFault v before after = Leaves (CutRun SinkFault v) before after
