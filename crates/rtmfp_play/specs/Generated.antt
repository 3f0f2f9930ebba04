-- The generated run: eight ends, and steps that a sequence of numbers picks.
use Rattle.std.specs.Prelude.{ℕ, zero, suc, ◌+◌, ◌-◌, ◌*◌, ◌/◌, ◌%◌, ◌^◌, ◌==◌, ◌≡◌, ◌<◌, ◌⊎◌, nat_lt, List, [], ◌∷◌, ◌++◌, length, slice_index, take, codes, replicate, Option, Some, None, false, if◌then◌else◌}
use Rattle.rtmfp_forms.specs.Address.{AddressParts}
use Rattle.endpoint_model.specs.declared.entry.Entry.{Entry}
use Rattle.rendezvous_world.specs.declared.step.Step.{Step}
use Rattle.rendezvous_world.specs.declared.step.Step.TheVariants.{End, At, Open, Cancel, Deliver, Tick}
use Rattle.rendezvous_world.specs.declared.journal.JournalLine.{JournalLine}
use Rattle.rendezvous_world.specs.Seen.{Seen}
use Rattle.rendezvous_world.specs.Datagrams.{nth}
use Rattle.rendezvous_world.specs.Sent.{Sent, sent_in}
use Rattle.rendezvous_world.specs.Inside.{passing}
use Rattle.rendezvous_world.specs.Laws.{empty_world}
use Rattle.rendezvous_world.specs.Pairs.{kept_pairs}
use Rattle.rendezvous_world.specs.Faults.{step_fault}
use Rattle.rendezvous_world.specs.Stepping.{Stepped}
use Rattle.rendezvous_world.specs.declared.step.StepFault.{StepFault}
use Rattle.rendezvous_world.specs.declared.step.StepFault.TheVariants.{Forged}
use Rattle.rtmfp_host.specs.Faults.{Rose}
use Rattle.rtmfp_host.specs.Writing.{Appends}
use Rattle.rtmfp_host.specs.Seen.{SinkSeen}
use Rattle.rtmfp_lines.specs.Outside.{Settled}
use Rattle.rtmfp_lines.specs.declared.status.Status.{Status}
use Rattle.rtmfp_lines.specs.declared.status.Status.TheVariants as status
use Rattle.rtmfp_play.specs.Play.{HistoryHolds, IsBadStep}
use Rattle.rtmfp_report.specs.Tally.{tally_of, summary_text}

-- how many ends there are
abbrev pub end_count : ℕ
end_count = 8

-- a digit
abbrev pub digit : ℕ → List ℕ
digit n = (48 + n) ∷ []

-- `e0` to `e7`
abbrev pub end_name : ℕ → List ℕ
end_name who = codes "e" ++ digit who

-- `generated-end-00e0` to `generated-end-07e7`: an instance of 16 bytes, and the name
abbrev pub end_cert : ℕ → List ℕ
end_cert who = codes "generated-end-0" ++ digit who ++ end_name who

-- the line of an end
abbrev pub end_step : ℕ → Step
end_step who = End (end_name who) 65536 4096 (end_cert who)

-- its address: 10.0.0.1:1935 for the first
abbrev pub end_address : ℕ → AddressParts
end_address who = record {
  v6 = false;
  origin = 0;
  host = 10 ∷ 0 ∷ 0 ∷ (who + 1) ∷ replicate 12 0;
  port = 1935;
}

-- the end that has this address, by the last number of its host
abbrev pub end_at : AddressParts → ℕ
end_at address = slice_index address.host 3 - 1

-- ---- the sequence of numbers

abbrev pub next_number : ℕ → ℕ
next_number x = (6364136223846793005 * x + 1442695040888963407) % 2 ^ 64

-- the number after so many
abbrev pub number_after : ℕ → ℕ → ℕ
number_after zero seed = seed
number_after (suc count) seed = next_number (number_after count seed)

-- ---- the step that a number picks

-- A datagram reaches the end that it was sent to, from the address of the end that sent it. Each is
-- from one of the eight ends.
abbrev pub delivery : ℕ → ℕ → Option (ℕ × AddressParts) → Step
delivery end number None = Tick end
delivery end number (Some (by, to)) = if nat_lt by end_count then
    Deliver number (end_at to) (end_address by) else Tick end

-- one of the last 16 datagrams is delivered; where none was sent, the end does what is due
abbrev pub delivery_or_tick : List Sent → ℕ → ℕ → Step
delivery_or_tick sent end back =
    if length sent == 0 then Tick end
    else delivery end (length sent - back % length sent)
    (passing (nth sent (length sent - back % length sent)))

abbrev pub picked : Seen → (operation end other back : ℕ) → Step
picked w operation end other back =
    if nat_lt operation 2 then Open end other (end_address other ∷ [])
    else if operation == 2 then Tick end
    else if operation == 3 then At (w.moment + 500)
    else if operation == 4 then Cancel end back
    else delivery_or_tick (sent_in w.lines) end back

-- by a number of the sequence, of which the lower 33 bits don't count
abbrev pub generated_step : Seen → ℕ → Step
generated_step w x = picked w (x / 2 ^ 33 % 16) (x / 2 ^ 33 / 16 % 8) (x / 2 ^ 33 / 128 % 8)
    (x / 2 ^ 33 / 1024 % 16)

-- ---- the run

-- the world after so many of the ends, which stand on the first lines
abbrev pub Begun : ℕ → Seen → Type 0
Begun zero w = w ≡ empty_world
Begun (suc who) w = (v : Seen) × Begun who v × Stepped v (who + 1) (end_step who) w

-- the world after the eight ends and so many steps; the first of these is on line 9
abbrev pub Generates : ℕ → ℕ → Seen → Type 0
Generates seed zero w = Begun end_count w
Generates seed (suc count) w = (v : Seen) × Generates seed count v ×
    Stepped v (end_count + count + 1) (generated_step v (number_after (count + 1) seed)) w

-- ---- the summary

-- what all calls added
abbrev pub all_entries : List JournalLine → List Entry
all_entries [] = []
all_entries (line ∷ lines) = line.out.entries ++ all_entries lines

-- the line that is written of a generated run
abbrev pub summary_of : ℕ → Seen → List ℕ
summary_of steps w = summary_text (length w.ends) steps (tally_of (all_entries w.lines))
    (kept_pairs w.ends w.ends)

-- ---- how a generated run ends

-- The step of this line is refused so, after the lines before it.
pub record StopsAtEnd (Kind : Option StepFault → Type 0) (line : ℕ) : Type 0 where
  pub who : ℕ
  pub few : who < end_count
  pub numbered : line ≡ who + 1
  pub world : Seen
  pub begun : Begun who world
  pub refused : Kind (step_fault world (end_step who))

pub record StopsAtStep (Kind : Option StepFault → Type 0) (seed steps line : ℕ) : Type 0 where
  pub count : ℕ
  pub few : count < steps
  pub numbered : line ≡ end_count + count + 1
  pub world : Seen
  pub ran : Generates seed count world
  pub refused : Kind (step_fault world (generated_step world (number_after (count + 1) seed)))

abbrev pub StopsAtLine : (Option StepFault → Type 0) → ℕ → ℕ → ℕ → Type 0
StopsAtLine Kind seed steps line = StopsAtEnd Kind line ⊎ StopsAtStep Kind seed steps line

abbrev pub IsForgedStep : Option StepFault → Type 0
IsForgedStep fault = fault ≡ Some Forged

-- its summary was written, or the first bytes of it, and the history holds
pub record HasWritten (seed steps : ℕ) (before after : Option (List ℕ)) (shorten : List ℕ →
    List ℕ) : Type 0 where
  pub world : Seen
  pub ran : Generates seed steps world
  pub holds : HistoryHolds world
  pub written : Appends before after (shorten (summary_of steps world))

-- By its status: what it has written and passed on, and what has failed. Other statuses don't come.
abbrev pub GeneratedEnds : ℕ → ℕ → Status → SinkSeen → SinkSeen → Type 0
GeneratedEnds seed steps status.Done before after =
    HasWritten seed steps before.written after.written (λ text. text) × Settled before after
GeneratedEnds seed steps status.Memory before after = after ≡ before
GeneratedEnds seed steps (status.BadScript line) before after =
    StopsAtLine IsBadStep seed steps line × (after ≡ before)
GeneratedEnds seed steps (status.Forged line) before after =
    StopsAtLine IsForgedStep seed steps line × (after ≡ before)
GeneratedEnds seed steps status.SinkFault before after =
    ((k : ℕ) × HasWritten seed steps before.written after.written (take k)) ×
    Rose before.faults after.faults
GeneratedEnds seed steps other before after = ⊥
