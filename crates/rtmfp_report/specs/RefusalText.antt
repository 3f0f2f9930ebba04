-- The lines of calls that were refused.
use Rattle.std.specs.Prelude.{ℕ, List, [], ◌∷◌, codes}
use Rattle.glare_core.specs.declared.answers.StartRefusal.{StartRefusal}
use Rattle.glare_core.specs.declared.answers.StartRefusal.TheVariants.{Opening, Open, PeersFull, AttemptsSpent, OwnPrint, Memory as StartMemory}
use Rattle.endpoint_model.specs.declared.answers.OpenRefusal.{OpenRefusal}
use Rattle.endpoint_model.specs.declared.answers.OpenRefusal.TheVariants.{Candidates, Start, SessionsFull, Memory as OpenMemory}
use Rattle.endpoint_model.specs.declared.answers.SeekRefusal.{SeekRefusal}
use Rattle.endpoint_model.specs.declared.answers.SeekRefusal.TheVariants.{Candidates as WrongCount, SessionsFull as NoPlace, Memory as SeekMemory}
use Rattle.session_flows.specs.declared.refusal.CallRefusal.{CallRefusal}
use Rattle.session_flows.specs.declared.refusal.CallRefusal.TheVariants.{NoAttempt, NoSession, NoFlow, FlowsFull, WideMetadata, Queue, NotQueued, Finished, NextKnown, GenerationsSpent, SameSecret, NoNext, Memory as CallMemory}
use Rattle.flow_send.specs.declared.outcome.QueueRefusal.{QueueRefusal}
use Rattle.flow_send.specs.declared.outcome.QueueRefusal.TheVariants.{TooLong, Backlog, Finished as QueuedNoMore, SequenceSpent, Memory as QueueMemory}
use Rattle.introducer.specs.declared.refusal.RowRefusal.{RowRefusal}
use Rattle.introducer.specs.declared.refusal.RowRefusal.TheVariants.{Candidates as BadRow, RowsFull, Memory as RowMemory}
use Rattle.rtmfp_text.specs.Words.{number_field_text, text_of}
use Rattle.rtmfp_report.specs.LineText.{line_text}

-- why no attempt starts; no text for want of memory, which isn't reported
unfoldable pub start_refusal_text : StartRefusal → List ℕ
start_refusal_text (Opening n) = number_field_text (codes "opening ") n
start_refusal_text (Open near) = number_field_text (codes "open ") near
start_refusal_text (PeersFull limit) = number_field_text (codes "peers-full ") limit
start_refusal_text AttemptsSpent = codes "attempts-spent"
start_refusal_text OwnPrint = codes "own-print"
start_refusal_text StartMemory = []

-- why an attempt isn't opened; no text for want of memory
unfoldable pub open_refusal_text : OpenRefusal → List ℕ
open_refusal_text (Candidates count) = number_field_text (codes "candidates ") count
open_refusal_text (Start refusal) = start_refusal_text refusal
open_refusal_text (SessionsFull limit) = number_field_text (codes "sessions-full ") limit
open_refusal_text OpenMemory = []

-- why a search doesn't begin; no text for want of memory
unfoldable pub seek_refusal_text : SeekRefusal → List ℕ
seek_refusal_text (WrongCount count) = number_field_text (codes "candidates ") count
seek_refusal_text (NoPlace limit) = number_field_text (codes "sessions-full ") limit
seek_refusal_text SeekMemory = []

-- why a message isn't queued; no text for want of memory
unfoldable pub queue_refusal_text : QueueRefusal → List ℕ
queue_refusal_text (TooLong most) = number_field_text (codes "too-long ") most
queue_refusal_text (Backlog held) = number_field_text (codes "backlog ") held
queue_refusal_text QueuedNoMore = codes "finished"
queue_refusal_text SequenceSpent = codes "sequence-spent"
queue_refusal_text QueueMemory = []

-- why another call is refused; no text for want of memory
unfoldable pub call_refusal_text : CallRefusal → List ℕ
call_refusal_text NoAttempt = codes "no-attempt"
call_refusal_text NoSession = codes "no-session"
call_refusal_text NoFlow = codes "no-flow"
call_refusal_text (FlowsFull limit) = number_field_text (codes "flows-full ") limit
call_refusal_text (WideMetadata size) = number_field_text (codes "wide-metadata ") size
call_refusal_text (Queue refusal) = queue_refusal_text refusal
call_refusal_text NotQueued = codes "not-queued"
call_refusal_text Finished = codes "finished"
call_refusal_text (NextKnown generation) = number_field_text (codes "next-known ") generation
call_refusal_text GenerationsSpent = codes "generations-spent"
call_refusal_text SameSecret = codes "same-secret"
call_refusal_text NoNext = codes "no-next"
call_refusal_text CallMemory = []

-- why a row of addresses isn't added; no text for want of memory
unfoldable pub row_refusal_text : RowRefusal → List ℕ
row_refusal_text (BadRow count) = number_field_text (codes "candidates ") count
row_refusal_text (RowsFull limit) = number_field_text (codes "rows-full ") limit
row_refusal_text RowMemory = []

-- the line of a call that was refused so
unfoldable pub refused_line : ℕ → List ℕ → List ℕ → List ℕ
refused_line line name refusal = line_text line name (text_of (codes "refused " ∷ refusal ∷ []))
