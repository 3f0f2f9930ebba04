-- What holds of all runs over lines, and their limits a second time.
use Rattle.std.specs.Prelude.{◌≡◌, ◌⊎◌, ℕ, ◌+◌, ◌-◌, ◌<◌, ◌≤◌, true, false, List, [], ◌∷◌, ◌++◌, length, take, Contains, Option, Some}
use Rattle.rtmfp_data_chunks.specs.HandsOver.{HandsOver, HandsOnce}
use Rattle.flow_history.specs.Deeds.{Name}
use Rattle.flow_history.specs.Log.{queued_of, abandoned_of, handed_of}
use Rattle.endpoint_model.specs.Event.{Setup}
use Rattle.endpoint_laws.specs.History.{History}
use Rattle.endpoint_laws.specs.Agreed.{IsAgreed}
use Rattle.endpoint_handing.specs.Orders.{HasOrder}
use Rattle.endpoint_handing.specs.Told.{told, AllTold}
use Rattle.rtmfp_text.specs.declared.names.Named.{Named}
use Rattle.rendezvous_world.specs.declared.journal.JournalLine.{JournalLine}
use Rattle.rendezvous_world.specs.Inside.{count_in}
use Rattle.rendezvous_world.specs.Same.{AreSameWorlds}
use Rattle.rendezvous_world.specs.declared.step.Step.{Step}
use Rattle.rendezvous_world.specs.Laws.{empty_world}
use Rattle.rendezvous_world.specs.Seen.{group_secrets, Seen, setup_at}
use Rattle.placed_world.specs.Stepping.{SteppedFlat}
use Rattle.placed_world.specs.Seen.{PlacedSeen}
use Rattle.placed_world.specs.declared.step.LostLine.{LostLine}
use Rattle.rendezvous_world.specs.History.{history_of}
use Rattle.rtmfp_host.specs.Writing.{Appends}
use Rattle.rtmfp_lines.specs.declared.status.Status.{Status}
use Rattle.rtmfp_lines.specs.declared.status.Status.TheVariants as status
use Rattle.rtmfp_lines.specs.Lines.{lines_of}
use Rattle.rtmfp_lines.specs.Outside.{Outside}
use Rattle.rtmfp_lines.specs.Status.{status_code}
use Rattle.rtmfp_node.specs.declared.served.Served.TheVariants as served
use Rattle.rtmfp_report.specs.LostText.{lost_line}
use Rattle.rtmfp_play.specs.Journaling.{logs_text}
use Rattle.rtmfp_play.specs.Laws.{IsLostOn}
use Rattle.rtmfp_play.specs.Play.{name_at, names_of, told_of}
use Rattle.rtmfp_cli.specs.declared.doing.Doing.{Doing}
use Rattle.rtmfp_cli.specs.declared.doing.Doing.TheVariants.{Journaling, Playing, Showing}
use Rattle.rtmfp_cli.specs.Commands.{status_of}
use Rattle.rtmfp_cli.specs.Doing.{Holds, ending_of, journaling, limit_of, playing, showing}
use Rattle.rtmfp_cli.specs.Script.{Runs, ScriptEnds, max_lines}

-- Whatever the lines of a script are, the history of the world that they leave holds, also where
-- they are none.
abbrev pub EveryRunHolds : Type 0
EveryRunHolds = (lines : List (List ℕ)) (left : Doing) (text : List ℕ) →
    Runs 1 playing lines left text → Holds left

-- The first sentence of the headline: no run of a script leaves two ends that keep different
-- sessions with each other, and each attempt that opened has one session at its responder.
abbrev pub EveryRunIsAgreed : Type 0
EveryRunIsAgreed = (lines : List (List ℕ)) (w : PlacedSeen) (text : List ℕ) →
    Runs 1 playing lines (Playing w) text →
    IsAgreed group_secrets (setup_at w.world.ends) (history_of w.world)

-- A flow in queueing order has handed over what was queued on it whole, none twice, in the order of
-- queueing, and skipping only abandoned messages; one in arrival order whole, and none twice.
abbrev pub HandsInItsOrder : (ℕ → Setup) → History → Name → Type 0
HandsInItsOrder ends history n =
    (HasOrder false n ends history ×
    HandsOver (queued_of n (told ends history)) (abandoned_of n (told ends history))
    (handed_of n (told ends history))) ⊎
    (HasOrder true n ends history ×
    HandsOnce (queued_of n (told ends history)) (handed_of n (told ends history)))

-- The second: at each moment of a run each flow hands over in its order, and whatever an end states
-- of a message is told of a flow.
abbrev pub EveryRunHandsOver : Type 0
EveryRunHandsOver = (lines : List (List ℕ)) (w : PlacedSeen) (text : List ℕ) →
    Runs 1 playing lines (Playing w) text → (later early : History) →
    history_of w.world ≡ later ++ early →
    ((n : Name) → HandsInItsOrder (setup_at w.world.ends) early n) ×
    AllTold (setup_at w.world.ends) early

-- ---- the report of a script

-- The first lines of a script, so many, were done and have left this world; these come next.
pub record HasPlayed (lines : List (List ℕ)) (count : ℕ) (w : PlacedSeen)
    (later : List (List ℕ)) : Type 0 where
  pub early : List (List ℕ)
  pub split : lines ≡ early ++ later
  pub size : length early ≡ count
  pub text : List ℕ
  pub ran : Runs 1 playing early (Playing w) text

-- Line n of a script has carried a datagram that didn't arrive.
pub record LostAt (lines : List (List ℕ)) (n : ℕ) (lost : LostLine) : Type 0 where
  pub before : ℕ
  pub number : n ≡ before + 1
  pub world : PlacedSeen
  pub line : List ℕ
  pub later : List (List ℕ)
  pub played : HasPlayed lines before world (line ∷ later)
  pub is_lost : IsLostOn world line lost

-- After line n of a script so many ends were there.
pub record HadEnds (lines : List (List ℕ)) (n there : ℕ) : Type 0 where
  pub world : PlacedSeen
  pub later : List (List ℕ)
  pub played : HasPlayed lines n world later
  pub count : there ≡ length (names_of world.world)

-- What is told of: a line of the journal, or a datagram that was carried on a line of the script
-- and didn't arrive.
pub data Told : Type 0 where
  Line : (line : JournalLine) → Told
  Loss : (n : ℕ) → (lost : LostLine) → Told

-- the lines of the journal among them
abbrev pub journal_in : List Told → List JournalLine
journal_in [] = []
journal_in (Line line ∷ told) = line ∷ journal_in told
journal_in (Loss n lost ∷ told) = journal_in told

-- the line of the script that did what is told
abbrev pub done_on : Told → ℕ
done_on (Line line) = line.line
done_on (Loss n lost) = n

-- each was done on a later line than the one before it, and the first on a later one than this
abbrev pub Rises : ℕ → List Told → Type 0
Rises n [] = Unit {0}
Rises n (first ∷ told) = (n < done_on first) × Rises (done_on first) told

-- The ends that were there after line n are so many, the first of all these, and this one is among
-- them: ends come and don't go.
pub record IsThere (lines : List (List ℕ)) (names : List Named) (n there end : ℕ) : Type 0 where
  pub had : HadEnds lines n there
  pub among : end < there
  pub first : there ≤ length names

-- These tell this text, where so many datagrams were sent before: what is told of each, one after
-- another. Each is told with the names of the ends that were there then, and the end that a line of
-- the journal calls, or that sent what is lost, is among them.
abbrev pub IsReport : List (List ℕ) → List Named → ℕ → List Told → List ℕ → Type 0
IsReport lines names sent [] text = text ≡ []
IsReport lines names sent (Line line ∷ told) text =
    (there : ℕ) × (rest : List ℕ) × IsThere lines names line.line there line.end
    × (text ≡ told_of (take there names) sent line line.refused ++ rest) ×
    IsReport lines names (sent + count_in line) told rest
IsReport lines names sent (Loss n lost ∷ told) text =
    (there : ℕ) × (rest : List ℕ) × IsThere lines names n there lost.end
    × (text ≡ lost_line n (name_at (take there names) lost.end) lost.number lost.lost ++ rest) ×
    IsReport lines names sent told rest

-- What is told of a script that left this world, with its text: each line of the journal, and each
-- datagram that its lines lost, in their order, and nothing else.
pub record IsTold (lines : List (List ℕ)) (w : Seen) (text : List ℕ) : Type 0 where
  pub told : List Told
  pub journal : journal_in told ≡ w.lines
  pub only_lost : (n : ℕ) (lost : LostLine) → Contains told (Loss n lost) → LostAt lines n lost
  pub all_lost : (n : ℕ) (lost : LostLine) → LostAt lines n lost → Contains told (Loss n lost)
  pub rises : Rises 0 told
  pub report : IsReport lines (names_of w) 0 told text

-- What is written of a script is the report of the journal that its lines leave, with a line for
-- each datagram that was lost, where it was.
abbrev pub EachTextIsTheReport : Type 0
EachTextIsTheReport = (lines : List (List ℕ)) (w : PlacedSeen) (text : List ℕ) →
    Runs 1 playing lines (Playing w) text → IsTold lines w.world text

-- Steps of a world, from line n on, one after another; a line without one leaves it as it is.
abbrev pub StepsOn : ℕ → Seen → List (Option Step) → Seen → Type 0
StepsOn n w [] t = t ≡ w
StepsOn n w (step ∷ steps) t =
    (middle : Seen) × SteppedFlat w n step middle × StepsOn (n + 1) middle steps t

-- The world that a script leaves is that of a flat script, line for line: a carry that arrives is a
-- delivery there, and each other line of translators, places and carries is none.
abbrev pub EachRunIsFlat : Type 0
EachRunIsFlat = (lines : List (List ℕ)) (w : PlacedSeen) (text : List ℕ) →
    Runs 1 playing lines (Playing w) text →
    (steps : List (Option Step)) × (length steps ≡ length lines) ×
    StepsOn 1 empty_world steps w.world

-- What two runs leave is the same but for the room that outboxes of a journal have left, which is a
-- matter of memory; the places are the same.
abbrev pub AreSame : Doing → Doing → Type 0
AreSame Showing Showing = Unit {0}
AreSame (Playing w) (Playing t) = AreSameWorlds w.world t.world × (w.places ≡ t.places)
AreSame (Journaling w) (Journaling t) = AreSameWorlds w.world t.world × (w.places ≡ t.places)
AreSame left other = ⊥

-- ---- the logs of a script

-- What is written of a script by its journal is, with the ending, the text of the logs of all ends
-- of the world that it leaves.
abbrev pub EachJournalIsTheLogs : Type 0
EachJournalIsTheLogs = (lines : List (List ℕ)) (w : PlacedSeen) (text : List ℕ) →
    Runs 1 journaling lines (Journaling w) text →
    text ++ ending_of (Journaling w) ≡ logs_text w.world

-- And that is the world which a run that reports on these lines leaves.
abbrev pub EachJournalIsPlayed : Type 0
EachJournalIsPlayed = (lines : List (List ℕ)) (w : PlacedSeen) (text : List ℕ) →
    Runs 1 journaling lines (Journaling w) text →
    (words : List ℕ) × Runs 1 playing lines (Playing w) words

-- So no journal has the logs of ends that keep different sessions with each other.
abbrev pub EachJournalIsAgreed : Type 0
EachJournalIsAgreed = (lines : List (List ℕ)) (w : PlacedSeen) (text : List ℕ) →
    Runs 1 journaling lines (Journaling w) text →
    IsAgreed group_secrets (setup_at w.world.ends) (history_of w.world)

-- ---- all runs over lines

-- What lines leave, and the text that is written of them, are decided by the lines.
abbrev pub EachScriptHasOneRun : Type 0
EachScriptHasOneRun =
    (n : ℕ) (doing left other : Doing) (lines : List (List ℕ)) (text words : List ℕ) →
    Runs n doing lines left text → Runs n doing lines other words → AreSame left other ×
    (text ≡ words)

-- What a run over lines has written where these are done: the text of them all.
pub record WritesLines (doing : Doing) (lines : List (List ℕ)) (before after : Outside) : Type 0 where
  pub left : Doing
  pub text : List ℕ
  pub ran : Runs 1 doing lines left text
  pub written : Appends before.sink.written after.sink.written text

-- What it has written where it is done: the text of all lines, and the ending.
pub record WritesAll (doing : Doing) (lines : List (List ℕ)) (before after : Outside) : Type 0 where
  pub left : Doing
  pub text : List ℕ
  pub ran : Runs 1 doing lines left text
  pub written : Appends before.sink.written after.sink.written (text ++ ending_of left)

-- The text of this script is written so, whatever the source tells besides.
abbrev pub WritesOf : Status → (Doing → List (List ℕ) → Outside → Outside → Type 0) → Type 0
WritesOf result Writes = (doing : Doing) (script : List ℕ) (before after : Outside) →
    before.source.left ≡ Some script → ScriptEnds doing result before after →
    Writes doing (lines_of script) before after

-- Where all these lines can be done, a first part of their text and the ending was written.
abbrev pub WritesAPart : Doing → List (List ℕ) → Outside → Outside → Type 0
WritesAPart doing lines before after = (left : Doing) (text : List ℕ) →
    Runs 1 doing lines left text →
    (part : List ℕ) × (rest : List ℕ) × (text ++ ending_of left ≡ part ++ rest) ×
    Appends before.sink.written after.sink.written part

-- The text of the lines before line n was written.
abbrev pub WritesBefore : ℕ → Doing → List (List ℕ) → Outside → Outside → Type 0
WritesBefore n doing lines before after = WritesLines doing (take (n - 1) lines) before after

-- By its status a run over lines has written all, all before a line, or a first part.
pub record EachRunWritesInOrder : Type 0 where
  pub done : WritesOf status.Done WritesAll
  pub bad : (n : ℕ) → WritesOf (status.BadScript n) (WritesBefore n)
  pub forged : (n : ℕ) → WritesOf (status.Forged n) (WritesBefore n)
  pub long : WritesOf status.ScriptLong (WritesBefore 1000001)
  pub memory : WritesOf status.Memory WritesAPart
  pub sink : WritesOf status.SinkFault WritesAPart
  pub source : WritesOf status.SourceFault WritesAPart

pub record Limits : Type 0 where
  pub lines : max_lines ≡ 1000000
  pub show : limit_of showing ≡ 4096
  pub replay : limit_of playing ≡ 2097664
  pub journal : limit_of journaling ≡ 2097664

-- the number with which the program ends for each way in which a node does
pub record NodeStatuses : Type 0 where
  pub done : status_code (status_of served.Done) ≡ 0
  pub memory : status_code (status_of served.Memory) ≡ 1
  pub link : status_code (status_of served.LinkFault) ≡ 5
  pub sink : status_code (status_of served.SinkFault) ≡ 6
  pub entropy : status_code (status_of served.EntropyFault) ≡ 8
