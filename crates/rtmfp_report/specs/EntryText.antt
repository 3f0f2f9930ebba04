-- The lines of what ends did.
use Rattle.std.specs.Prelude.{ℕ, ◌+◌, List, [], ◌∷◌, ◌++◌, Option, Some, None, codes, length}
use Rattle.rtmfp_base.specs.declared.cause.Cause.{Cause}
use Rattle.endpoint_model.specs.declared.entry.Entry.{Entry}
use Rattle.endpoint_model.specs.declared.entry.Entry.TheVariants.{Fact as FactEntry, Closed, Sought, Unsought, Moved, Learnt, Advanced, FlowOpened, Queued, Finished, Abandoned, Handed, Discard, Out}
use Rattle.endpoint_model.specs.Views.{Sending, out_in}
use Rattle.endpoint_laws.specs.Contexts.{Secrets}
use Rattle.glare_core.specs.declared.facts.Why.{Why}
use Rattle.rtmfp_forms.specs.Address.{AddressParts}
use Rattle.rtmfp_text.specs.AddressText.{address_text}
use Rattle.rtmfp_text.specs.Words.{field_text, number_field_text, text_of}
use Rattle.rtmfp_text.specs.declared.names.Named.{Named}
use Rattle.rtmfp_report.specs.CauseText.{cause_text}
use Rattle.rtmfp_report.specs.FactText.{fact_text, why_text}
use Rattle.rtmfp_report.specs.LineText.{line_text}
use Rattle.rtmfp_report.specs.SentText.{sent_text}

-- a session whose closing is over
unfoldable pub closed_text : ℕ → List ℕ
closed_text near = number_field_text (codes "closed near=") near

-- a search that began: its session ID, and the name that it is for
unfoldable pub sought_text : ℕ → List ℕ → List ℕ
sought_text near name =
    text_of (number_field_text (codes "sought near=") near ∷ field_text (codes " name=") name ∷ [])

-- a search that is over: its session ID, and why
unfoldable pub unsought_text : ℕ → Why → List ℕ
unsought_text near why =
    text_of (number_field_text (codes "unsought near=") near ∷ codes " " ∷ why_text why ∷ [])

-- a session that moved: its session ID, and the new address
unfoldable pub moved_text : ℕ → AddressParts → List ℕ
moved_text near to =
    text_of (number_field_text (codes "moved near=") near ∷ codes " " ∷ address_text to ∷ [])

-- a generation of the group's secret that was learnt
unfoldable pub learnt_text : ℕ → List ℕ
learnt_text generation = number_field_text (codes "learnt ") generation

-- one that became the current one
unfoldable pub advanced_text : ℕ → List ℕ
advanced_text generation = number_field_text (codes "advanced ") generation

-- a flow that was opened
unfoldable pub flow_opened_text : ℕ → ℕ → List ℕ
flow_opened_text near flow =
    text_of (number_field_text (codes "flow near=") near ∷
    number_field_text (codes " id=") flow ∷ [])

-- something of a flow that has a number
unfoldable pub numbered_text : List ℕ → ℕ → ℕ → ℕ → List ℕ
numbered_text what near flow seq = text_of (what ∷ number_field_text (codes " near=") near ∷
    number_field_text (codes " flow=") flow ∷ number_field_text (codes " seq=") seq ∷ [])

-- a message that was queued, of so many bytes
unfoldable pub queued_text : ℕ → ℕ → ℕ → ℕ → List ℕ
queued_text near flow seq size = text_of (numbered_text (codes "queued") near flow seq ∷
    number_field_text (codes " length=") size ∷ [])

-- a message that is handed over, and its bytes
unfoldable pub handed_text : ℕ → ℕ → ℕ → List ℕ → List ℕ
handed_text near flow seq message = text_of (numbered_text (codes "handed") near flow seq ∷
    field_text (codes " ") message ∷ [])

-- a discard: its place, and its cause
unfoldable pub drop_text : ℕ → Cause → List ℕ
drop_text place cause =
    text_of (number_field_text (codes "drop ") place ∷ codes " " ∷ cause_text cause ∷ [])

-- one more where a datagram goes out
abbrev pub counted_out : ℕ → Option Sending → ℕ
counted_out sent None = sent
counted_out sent (Some out) = sent + 1

-- how many datagrams were sent after an entry, where so many were before
abbrev pub counted_after : ℕ → Entry → ℕ
counted_after sent entry = counted_out sent (out_in entry)

-- What an entry tells, by the secrets of the group. A datagram that goes out has this number.
abbrev pub told_text : Secrets → List Named → ℕ → Entry → List ℕ
told_text secrets ends number (FactEntry fact) = fact_text ends fact
told_text secrets ends number (Closed near) = closed_text near
told_text secrets ends number (Sought near name) = sought_text near name
told_text secrets ends number (Unsought near why) = unsought_text near why
told_text secrets ends number (Moved near to) = moved_text near to
told_text secrets ends number (Learnt generation) = learnt_text generation
told_text secrets ends number (Advanced generation) = advanced_text generation
told_text secrets ends number (FlowOpened near flow) = flow_opened_text near flow
told_text secrets ends number (Queued near flow seq message) =
    queued_text near flow seq (length message)
told_text secrets ends number (Finished near flow seq) =
    numbered_text (codes "finished") near flow seq
told_text secrets ends number (Abandoned near flow seq) =
    numbered_text (codes "abandoned") near flow seq
told_text secrets ends number (Handed near flow seq message) = handed_text near flow seq message
told_text secrets ends number (Discard place cause) = drop_text place cause
told_text secrets ends number (Out to datagram context) = sent_text secrets number to datagram context

-- the line of an entry of the end with this name
abbrev pub entry_text : Secrets → List Named → ℕ → List ℕ → ℕ → Entry → List ℕ
entry_text secrets ends line name number entry =
    line_text line name (told_text secrets ends number entry)

-- the lines of entries, one after another, where so many datagrams were sent before
abbrev pub entries_text : Secrets → List Named → ℕ → List ℕ → ℕ → List Entry → List ℕ
entries_text secrets ends line name sent [] = []
entries_text secrets ends line name sent (entry ∷ entries) =
    entry_text secrets ends line name (counted_after sent entry) entry
    ++ entries_text secrets ends line name (counted_after sent entry) entries

-- how many datagrams were sent after entries, where so many were before
abbrev pub sent_after : ℕ → List Entry → ℕ
sent_after sent [] = sent
sent_after sent (entry ∷ entries) = sent_after (counted_after sent entry) entries
