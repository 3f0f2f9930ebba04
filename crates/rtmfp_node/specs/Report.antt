-- What a node writes: a report, or a journal in its place. The lines of a report begin with the
-- turn and `self`, and its peers are called by the digits of their fingerprints. A journal is
-- written where there is a label: it calls the end so.
use Rattle.std.specs.Prelude.{ℕ, ◌+◌, true, false, List, [], ◌∷◌, ◌++◌, codes, Option, Some, None}
use Rattle.rtmfp_host.specs.declared.link.LinkCall.{LinkCall}
use Rattle.rtmfp_host.specs.declared.link.LinkCall.TheVariants.{Bind, Receive, Send}
use Rattle.endpoint_model.specs.Event.{Answer, Began, Searching, Done, Succeeds, NotOpened, NotSought, Refused, NotAdded, Stopped, OutOfMemory, Event, Setup, moment_at}
use Rattle.endpoint_laws.specs.Contexts.{Secrets}
use Rattle.log_writing.specs.Written.{event_lines, head_line, text_of}
use Rattle.rtmfp_text.specs.Words.{number_field_text}
use Rattle.rtmfp_report.specs.EntryText.{entries_text}
use Rattle.rtmfp_report.specs.LineText.{line_text}
use Rattle.rtmfp_report.specs.RefusalText.{open_refusal_text, seek_refusal_text, call_refusal_text, refused_line}
use Rattle.rtmfp_node.specs.declared.sending.Front.{Front}
use Rattle.rtmfp_node.specs.declared.sending.Front.TheVariants.{InReport, InJournal}
use Rattle.rtmfp_node.specs.Reached.{Reached, reached_by}

abbrev pub self_name : List ℕ
self_name = codes "self"

-- what stands in front of all events: in a journal the line of the end
abbrev pub head_text : Option (List ℕ) → Setup → List ℕ
head_text None setup = []
head_text (Some label) setup = text_of (head_line label setup ∷ [])

-- what stands in a report alone
abbrev pub in_report : Option (List ℕ) → List ℕ → List ℕ
in_report None text = text
in_report (Some label) text = []

-- the line of a refused call, in this turn
abbrev pub refused_text : Option (List ℕ) → ℕ → Answer → List ℕ
refused_text label turn (NotOpened refusal) =
    in_report label (refused_line turn self_name (open_refusal_text refusal))
refused_text label turn (NotSought refusal) =
    in_report label (refused_line turn self_name (seek_refusal_text refusal))
refused_text label turn (Refused refusal) =
    in_report label (refused_line turn self_name (call_refusal_text refusal))
refused_text label turn (Began n) = []
refused_text label turn (Searching near) = []
refused_text label turn Done = []
refused_text label turn (Succeeds generation) = []
refused_text label turn (NotAdded refusal) = []
refused_text label turn (Stopped stop) = []
refused_text label turn OutOfMemory = []

-- the lines of what an event added, one for each entry; in a journal behind that of its call
abbrev pub added_text : Option (List ℕ) → Secrets → ℕ → Reached → Event → List ℕ
added_text None secrets turn far e = entries_text secrets [] turn self_name far.sent e.entries
added_text (Some label) secrets turn far e =
    text_of (event_lines label (moment_at far.moment e) e)

-- the lines of an event, where the run came so far before
abbrev pub event_text : Option (List ℕ) → Secrets → ℕ → Reached → Event → List ℕ
event_text label secrets turn far e =
    added_text label secrets turn far e ++ refused_text label turn e.answer

-- the lines of events, one after another
abbrev pub events_text : Option (List ℕ) → Secrets → ℕ → Reached → List Event → List ℕ
events_text label secrets turn far [] = []
events_text label secrets turn far (e ∷ log) =
    event_text label secrets turn far e ++ events_text label secrets turn (reached_by far e) log

-- how the line of a datagram that was lost begins
abbrev pub front_of : Option (List ℕ) → ℕ → Front
front_of None turn = InReport turn
front_of (Some label) turn = InJournal

-- The line of a datagram that was lost, by its number. Readers of journals skip it.
unfoldable pub unsent_line : Front → ℕ → List ℕ
unsent_line (InReport turn) number =
    line_text turn self_name (number_field_text (codes "unsent ") number)
unsent_line InJournal number = number_field_text (codes "# unsent ") number ++ codes "\n"

-- A line for each send that wasn't done, where so many datagrams went out before: the first of
-- these has the number after that.
abbrev pub unsent_text : Front → ℕ → List LinkCall → List ℕ
unsent_text front count [] = []
unsent_text front count (Bind at ∷ calls) = unsent_text front count calls
unsent_text front count (Receive until ∷ calls) = unsent_text front count calls
unsent_text front count (Send to datagram true ∷ calls) = unsent_text front (count + 1) calls
unsent_text front count (Send to datagram false ∷ calls) =
    unsent_line front (count + 1) ++ unsent_text front (count + 1) calls
