-- What `replay` makes of a line of a script.
use Rattle.std.specs.Prelude.{ℕ, ◌≡◌, ◌≤◌, ◌⊎◌, List, [], ◌++◌, map, length, position, slice_get, Option, Some, None}
use Rattle.std.specs.Str.{bytes_eq}
use Rattle.rtmfp_text.specs.declared.names.Named.{Named}
use Rattle.rtmfp_script.specs.declared.line.ScriptLine.{ScriptLine}
use Rattle.rtmfp_script.specs.declared.line.ScriptLine.TheVariants as line
use Rattle.rtmfp_script.specs.declared.line.CallLine.{CallLine}
use Rattle.rtmfp_script.specs.declared.line.CallLine.TheVariants as call
use Rattle.rtmfp_script.specs.declared.line.AimLine.{AimLine}
use Rattle.rtmfp_script.specs.declared.line.AimLine.TheVariants as aim
use Rattle.rtmfp_script.specs.declared.line.BringLine.{BringLine}
use Rattle.rtmfp_script.specs.declared.line.BringLine.TheVariants as bring
use Rattle.rtmfp_forms.specs.Address.{AddressParts}
use Rattle.rtmfp_script.specs.Grammar.{IsLineOf, IsSkipped, content_bytes, line_limit}
use Rattle.rendezvous_world.specs.declared.step.Step.{Step}
use Rattle.rendezvous_world.specs.declared.step.Step.TheVariants as step
use Rattle.placed_world.specs.declared.step.PlacedStep.{PlacedStep}
use Rattle.placed_world.specs.declared.step.PlacedStep.TheVariants as placed
use Rattle.placed_world.specs.declared.step.LostLine.{LostLine}
use Rattle.placed_world.specs.Seen.{PlacedSeen}
use Rattle.placed_world.specs.Stepping.{Placed, placed_fault}
use Rattle.end_places.specs.declared.standing.NamedTranslator.{NamedTranslator}
use Rattle.end_places.specs.Seen.{is_called, no_places}
use Rattle.rtmfp_report.specs.LostText.{lost_line}
use Rattle.rendezvous_world.specs.declared.step.StepFault.{StepFault}
use Rattle.rendezvous_world.specs.declared.step.StepFault.TheVariants.{NoEnd, NoDatagram, BadStep, Forged, Memory}
use Rattle.rendezvous_world.specs.declared.journal.JournalLine.{JournalLine}
use Rattle.rendezvous_world.specs.declared.journal.Refused.{Refused}
use Rattle.rendezvous_world.specs.declared.journal.Refused.TheVariants.{Open as OpenRefused, Seek as SeekRefused, Call as CallRefused, Row as RowRefused}
use Rattle.endpoint_laws.specs.Agreed.{IsAgreed}
use Rattle.rendezvous_world.specs.Seen.{group_secrets, Seen, setup_at}
use Rattle.rendezvous_world.specs.Handing.{MessagesGoOver}
use Rattle.rendezvous_world.specs.Laws.{empty_world}
use Rattle.rendezvous_world.specs.History.{history_of}
use Rattle.rendezvous_world.specs.Sound.{IsSound}
use Rattle.rendezvous_world.specs.Inside.{named_of}
use Rattle.rendezvous_world.specs.Sent.{sent_in}
use Rattle.rtmfp_report.specs.EntryText.{entries_text}
use Rattle.rtmfp_report.specs.RefusalText.{refused_line, open_refusal_text, seek_refusal_text, call_refusal_text, row_refusal_text}

-- what lines begin with: a world without ends, and no places
abbrev pub empty_placed : PlacedSeen
empty_placed = record { world = empty_world; places = no_places }

-- ---- the step that a line says

-- the number of the first end with this name
abbrev pub number_of : List Named → List ℕ → Option ℕ
number_of ends name = position (λ end. bytes_eq end.name name) ends

abbrev pub step_by : Option ℕ → (ℕ → Step) → Option PlacedStep
step_by None step = None
step_by (Some end) step = Some (placed.World (step end))

abbrev pub step_by_both : Option ℕ → Option ℕ → (ℕ → ℕ → Step) → Option PlacedStep
step_by_both None peer step = None
step_by_both (Some end) None step = None
step_by_both (Some end) (Some peer) step = Some (placed.World (step end peer))

-- the number of the first translator with this name
abbrev pub translator_named : List NamedTranslator → List ℕ → Option ℕ
translator_named translators name = position (is_called name) translators

abbrev pub behind_by : Option ℕ → Option (Option ℕ)
behind_by None = None
behind_by (Some number) = Some (Some number)

-- what an end is placed behind; nothing where that isn't there
abbrev pub behind_said : List NamedTranslator → Option (List ℕ) → Option (Option ℕ)
behind_said translators None = Some None
behind_said translators (Some name) = behind_by (translator_named translators name)

abbrev pub place_by : Option ℕ → AddressParts → Option (Option ℕ) → Option PlacedStep
place_by None at behind = None
place_by (Some end) at None = None
place_by (Some end) at (Some behind) = Some (placed.Place end at behind)

-- what an end is called to do
abbrev pub call_step : ℕ → CallLine → Step
call_step end call.Introduce = step.Introduce end
call_step end (call.Narrow limit) = step.Narrow end limit
call_step end (call.Seek service addresses) = step.Seek end service addresses
call_step end (call.Unseek near) = step.Unseek end near
call_step end (call.Cancel number) = step.Cancel end number
call_step end (call.Close near) = step.Close end near
call_step end (call.Flow near priority metadata answers) =
    step.Flow end near priority metadata answers
call_step end (call.Queue near flow deadline resends content) = step.Queue end near flow
    (record { deadline = deadline; resends = resends }) (content_bytes content)
call_step end (call.Abandon near flow seq) = step.Abandon end near flow seq
call_step end (call.Finish near flow) = step.Finish end near flow
call_step end call.Learn = step.Learn end
call_step end call.Advance = step.Advance end
call_step end call.Tick = step.Tick end

-- what an end is called to do towards a peer
abbrev pub aim_step : ℕ → ℕ → List AddressParts → AimLine → Step
aim_step end peer addresses aim.Redirect = step.Redirect end peer addresses
aim_step end peer addresses aim.Open = step.Open end peer addresses

-- what is brought to an end from an address
abbrev pub bring_step : ℕ → AddressParts → BringLine → Step
bring_step end from (bring.Deliver number) = step.Deliver number end from
bring_step end from (bring.Bent number place) = step.Bent number place end from
bring_step end from (bring.Inject bytes) = step.Inject end from bytes
bring_step end from (bring.Forge bytes) = step.Forge end from bytes

-- the step, among these ends and translators; none where one that it names isn't there
abbrev pub step_said : List Named → List NamedTranslator → ScriptLine → Option PlacedStep
step_said ends translators (line.End name peers sessions cert) =
    Some (placed.World (step.End name peers sessions cert))
step_said ends translators (line.At moment) = Some (placed.World (step.At moment))
step_said ends translators (line.Call name does) = step_by (number_of ends name)
    (λ end. call_step end does)
step_said ends translators (line.Towards name peer addresses does) =
    step_by_both (number_of ends name) (number_of ends peer)
    (λ end other. aim_step end other addresses does)
step_said ends translators (line.Bring name from what) = step_by (number_of ends name)
    (λ end. bring_step end from what)
step_said ends translators (line.Translator name mapping filter host first) =
    Some (placed.Translator name mapping filter host first)
step_said ends translators (line.Place name at behind) =
    place_by (number_of ends name) at (behind_said translators behind)
step_said ends translators (line.Carry number) = Some (placed.Carry number)

abbrev pub names_of : Seen → List Named
names_of w = map named_of w.ends

-- ---- the report of a line

abbrev pub name_or_none : Option Named → List ℕ
name_or_none None = []
name_or_none (Some end) = end.name

-- the name of the end with this number
abbrev pub name_at : List Named → ℕ → List ℕ
name_at ends who = name_or_none (slice_get ends who)

-- a refused call, or what the call did, where so many datagrams were sent before
abbrev pub told_of : List Named → ℕ → JournalLine → Option Refused → List ℕ
told_of ends sent line None = entries_text group_secrets ends line.line (name_at ends line.end) sent
    line.out.entries
told_of ends sent line (Some (OpenRefused refusal)) =
    refused_line line.line (name_at ends line.end) (open_refusal_text refusal)
told_of ends sent line (Some (SeekRefused refusal)) =
    refused_line line.line (name_at ends line.end) (seek_refusal_text refusal)
told_of ends sent line (Some (CallRefused refusal)) =
    refused_line line.line (name_at ends line.end) (call_refusal_text refusal)
told_of ends sent line (Some (RowRefused refusal)) =
    refused_line line.line (name_at ends line.end) (row_refusal_text refusal)

abbrev pub told_next : List Named → ℕ → Option JournalLine → List ℕ
told_next ends sent None = []
told_next ends sent (Some line) = told_of ends sent line line.refused

-- a datagram that was carried on line n and doesn't arrive, if there is one, under its sender's name
abbrev pub told_lost : List Named → ℕ → Option LostLine → List ℕ
told_lost ends n None = []
told_lost ends n (Some lost) = lost_line n (name_at ends lost.end) lost.number lost.lost

-- what is told of the line that the journal of t has beyond that of w, if there is one; a step adds
-- one at most
abbrev pub report_since : Seen → Seen → List ℕ
report_since w t = told_next (names_of t) (length (sent_in w.lines))
    (slice_get t.lines (length w.lines))

-- ---- what is made of line n

-- What holds of a world after each line: each end stands for its own log, but that it may keep a
-- later moment; the history is lawful, honest and fresh, and hence agreed; and the messages of its
-- flows go over.
pub record HistoryHolds (w : Seen) : Type 0 where
  pub sound : IsSound w
  pub agreed : IsAgreed group_secrets (setup_at w.ends) (history_of w)
  pub go_over : MessagesGoOver (setup_at w.ends) (history_of w)

-- the step that a line says among the ends and translators that are there
abbrev pub placed_said : PlacedSeen → ScriptLine → Option PlacedStep
placed_said w said = step_said (names_of w.world) w.places.translators said

-- what is told of a step that left t, and of the datagram that it lost, if it did
abbrev pub told_since : PlacedSeen → ℕ → PlacedSeen → Option LostLine → List ℕ
told_since w n t lost = report_since w.world t.world ++ told_lost (names_of t.world) n lost

-- The line says a step, which was done whole; this is the report of it, and the history holds.
pub record PlaysStep (w : PlacedSeen) (n : ℕ) (line : List ℕ) (t : PlacedSeen) (text : List ℕ)
    : Type 0 where
  pub said : ScriptLine
  pub step : PlacedStep
  pub lost : Option LostLine
  pub is_line : IsLineOf line said
  pub is_step : placed_said w said ≡ Some step
  pub stepped : Placed w n step lost t
  pub is_text : text ≡ told_since w n t lost
  pub holds : HistoryHolds t.world

-- An empty line and a comment say nothing.
pub record PlaysNothing (w : PlacedSeen) (line : List ℕ) (t : PlacedSeen) (text : List ℕ)
    : Type 0 where
  pub skipped : IsSkipped line
  pub fits : length line ≤ line_limit
  pub same : t ≡ w
  pub no_text : text ≡ []

abbrev pub Plays : PlacedSeen → ℕ → List ℕ → PlacedSeen → List ℕ → Type 0
Plays w n line t text = PlaysNothing w line t text ⊎ PlaysStep w n line t text

-- an end, a datagram or a place that isn't there, or a step outside its limits
abbrev pub IsBadStep : Option StepFault → Type 0
IsBadStep None = ⊥
IsBadStep (Some NoEnd) = Unit {0}
IsBadStep (Some NoDatagram) = Unit {0}
IsBadStep (Some BadStep) = Unit {0}
IsBadStep (Some Forged) = ⊥
IsBadStep (Some Memory) = ⊥

-- The line is too long, or neither skipped nor the line of a step that could be done or is forged.
pub record IsBadPlay (w : PlacedSeen) (line : List ℕ) : Type 0 where
  pub not_skipped : IsSkipped line → length line ≤ line_limit → ⊥
  pub bad : (said : ScriptLine) (step : PlacedStep) → IsLineOf line said →
      placed_said w said ≡ Some step → IsBadStep (placed_fault w step)

-- The line says a step that brings a datagram that nobody sent.
pub record IsForgedPlay (w : PlacedSeen) (line : List ℕ) : Type 0 where
  pub said : ScriptLine
  pub step : PlacedStep
  pub is_line : IsLineOf line said
  pub is_step : placed_said w said ≡ Some step
  pub forged : placed_fault w step ≡ Some Forged
