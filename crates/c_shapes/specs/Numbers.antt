-- The numbers of what calls answer (rtmfp.h): 0 where they are done, and one of its own for each
-- reason why they aren't.
use Rattle.std.specs.Prelude.{ℕ, ℤ, pos, neg_ℤ, if◌then◌else◌, unwrap_or, Option, Some, None, Result, Ok, Err}
use Rattle.glare_core.specs.declared.answers.StartRefusal.{StartRefusal}
use Rattle.glare_core.specs.declared.answers.StartRefusal.TheVariants as start
use Rattle.introducer.specs.declared.refusal.RowRefusal.{RowRefusal}
use Rattle.introducer.specs.declared.refusal.RowRefusal.TheVariants as row
use Rattle.flow_send.specs.declared.outcome.QueueRefusal.{QueueRefusal}
use Rattle.flow_send.specs.declared.outcome.QueueRefusal.TheVariants as queue
use Rattle.session_flows.specs.declared.refusal.CallRefusal.{CallRefusal}
use Rattle.session_flows.specs.declared.refusal.CallRefusal.TheVariants as call
use Rattle.endpoint_model.specs.declared.answers.OpenRefusal.{OpenRefusal}
use Rattle.endpoint_model.specs.declared.answers.OpenRefusal.TheVariants as opening
use Rattle.endpoint_model.specs.declared.answers.SeekRefusal.{SeekRefusal}
use Rattle.endpoint_model.specs.declared.answers.SeekRefusal.TheVariants as seeking
use Rattle.endpoint_model.specs.declared.answers.Stopped.{Stopped}
use Rattle.endpoint.specs.declared.call.Answered.{Answered}
use Rattle.endpoint.specs.declared.call.Answered.TheVariants as told

abbrev pub minus : ℕ → ℤ
minus n = neg_ℤ (pos n)

-- ---- what isn't an answer of the end: RTMFP_OK, RTMFP_E_MEMORY and so on

abbrev pub done : ℤ
done = pos 0

abbrev pub no_memory : ℤ
no_memory = minus 1

abbrev pub empty : ℤ
empty = minus 2

abbrev pub full : ℤ
full = minus 3

abbrev pub config : ℤ
config = minus 4

abbrev pub certificate : ℤ
certificate = minus 5

abbrev pub too_long : ℤ
too_long = minus 6

abbrev pub no_entry : ℤ
no_entry = minus 7

abbrev pub partly : ℤ
partly = minus 8

abbrev pub address : ℤ
address = minus 9

abbrev pub other_size : ℤ
other_size = minus 18

abbrev pub name : ℤ
name = minus 19

-- ---- what is

abbrev pub start_number : StartRefusal → ℤ
start_number (start.Opening n) = minus 11
start_number (start.Open near) = minus 12
start_number (start.PeersFull count) = minus 13
start_number start.AttemptsSpent = minus 14
start_number start.OwnPrint = minus 15
start_number start.Memory = no_memory

abbrev pub open_number : OpenRefusal → ℤ
open_number (opening.Candidates count) = minus 10
open_number (opening.Start refusal) = start_number refusal
open_number (opening.SessionsFull count) = minus 16
open_number opening.Memory = no_memory

abbrev pub seek_number : SeekRefusal → ℤ
seek_number (seeking.Candidates count) = minus 10
seek_number (seeking.SessionsFull count) = minus 16
seek_number seeking.Memory = no_memory

abbrev pub row_number : RowRefusal → ℤ
row_number (row.Candidates count) = minus 10
row_number (row.RowsFull count) = minus 17
row_number row.Memory = no_memory

abbrev pub queue_number : QueueRefusal → ℤ
queue_number (queue.TooLong most) = minus 27
queue_number (queue.Backlog held) = minus 28
queue_number queue.Finished = minus 26
queue_number queue.SequenceSpent = minus 29
queue_number queue.Memory = no_memory

abbrev pub call_number : CallRefusal → ℤ
call_number call.NoAttempt = minus 20
call_number call.NoSession = minus 21
call_number call.NoFlow = minus 22
call_number (call.FlowsFull count) = minus 23
call_number (call.WideMetadata bytes) = minus 24
call_number call.NotQueued = minus 25
call_number call.Finished = minus 26
call_number (call.NextKnown generation) = minus 30
call_number call.GenerationsSpent = minus 31
call_number call.SameSecret = minus 32
call_number call.NoNext = minus 33
call_number (call.Queue refusal) = queue_number refusal
call_number call.Memory = no_memory

abbrev pub number_of : Answered → ℤ
number_of (told.Began n) = done
number_of (told.Searching near) = done
number_of (told.FlowOpened flow) = done
number_of (told.Queued seq) = done
number_of (told.Succeeds generation) = done
number_of told.Done = done
number_of (told.NotOpened refusal) = open_number refusal
number_of (told.NotSought refusal) = seek_number refusal
number_of (told.Refused refusal) = call_number refusal
number_of (told.NotAdded refusal) = row_number refusal
number_of told.OutOfMemory = no_memory

-- the same where there is an end, and else that there is none
abbrev pub told_number : Option Answered → ℤ
told_number (Some answered) = number_of answered
told_number None = empty

-- the number of what a datagram came to
abbrev pub took_number : Option (Result (Unit {0}) Stopped) → ℤ
took_number (Some (Ok unit)) = done
took_number (Some (Err stop)) = if stop.taken then partly else no_memory
took_number None = empty

-- the number that an answer gives: of an attempt, a flow, a message or a generation
abbrev pub value_in : Answered → Option ℕ
value_in (told.Began n) = Some n
value_in (told.Searching near) = None
value_in (told.FlowOpened flow) = Some flow
value_in (told.Queued seq) = Some seq
value_in (told.Succeeds generation) = Some generation
value_in told.Done = None
value_in (told.NotOpened refusal) = None
value_in (told.NotSought refusal) = None
value_in (told.Refused refusal) = None
value_in (told.NotAdded refusal) = None
value_in told.OutOfMemory = None

-- the same, or what stood there before
abbrev pub given_by : Option Answered → ℕ → ℕ
given_by (Some answered) before = unwrap_or (value_in answered) before
given_by None before = before

-- the session ID that an answer gives: of a search
abbrev pub near_in : Answered → Option ℕ
near_in (told.Began n) = None
near_in (told.Searching near) = Some near
near_in (told.FlowOpened flow) = None
near_in (told.Queued seq) = None
near_in (told.Succeeds generation) = None
near_in told.Done = None
near_in (told.NotOpened refusal) = None
near_in (told.NotSought refusal) = None
near_in (told.Refused refusal) = None
near_in (told.NotAdded refusal) = None
near_in told.OutOfMemory = None

-- the same, or what stood there before
abbrev pub near_given_by : Option Answered → ℕ → ℕ
near_given_by (Some answered) before = unwrap_or (near_in answered) before
near_given_by None before = before
