-- What of an event of an end is written down, and its text.
use Rattle.std.specs.Prelude.{ℕ, ◌+◌, List, [], ◌∷◌, ◌++◌, map, filter_map, codes, replicate, Option, Some, None}
use Rattle.rtmfp_forms.specs.Address.{AddressParts}
use Rattle.endpoint_model.specs.declared.entry.Entry.{Entry}
use Rattle.endpoint_model.specs.declared.entry.Entry.TheVariants.{Fact as IsFact, Closed as IsClosed, Sought as IsSought, Unsought as IsUnsought, Learnt as IsLearnt, Advanced as IsAdvanced, Out as IsOut}
use Rattle.endpoint_model.specs.Event.{Setup, Event, Call, Open as IsOpen, Seek as IsSeek, Cancel as IsCancel, Unseek as IsUnseek, Close as IsClose, Learn as IsLearn, Advance as IsAdvance, Receive as IsReceive, Tick as IsTick, moment_at}
use Rattle.endpoint_laws.specs.Past.{last_moment}
use Rattle.endpoint_laws.specs.History.{History, log_of}
use Rattle.audit_text.specs.declared.line.LogCall.{LogCall}
use Rattle.audit_text.specs.declared.line.LogCall.TheVariants.{Open, Seek, Cancel, Unseek, Close, Learn, Advance, Receive, Tick, Other}
use Rattle.audit_text.specs.declared.line.LogEntry.{LogEntry}
use Rattle.audit_text.specs.declared.line.LogEntry.TheVariants.{Fact, Closed, Sought, Unsought, Learnt, Advanced, Out}
use Rattle.audit_text.specs.declared.line.LogLine.{LogLine}
use Rattle.audit_text.specs.declared.line.LogLine.TheVariants.{Log as LogIs, Event as EventIs, Entry as EntryIs}
use Rattle.audit_text.specs.Grammar.{line_text}
use Rattle.log_writing.specs.declared.said.SaidCall.{SaidCall}
use Rattle.log_writing.specs.declared.said.SaidCall.TheVariants as given

-- the address, whose origin isn't told
abbrev pub plain : AddressParts → AddressParts
plain a = record { v6 = a.v6; origin = 0; host = a.host; port = a.port }

-- ---- an event

abbrev pub written_call : Call → LogCall
written_call (IsOpen peer candidates draws) = Open peer draws.tag
written_call (IsSeek name candidates draws) = Seek name draws.tag
written_call (IsCancel n) = Cancel n
written_call (IsUnseek near) = Unseek near
written_call (IsClose near) = Close near
written_call (IsLearn secret) = Learn secret
written_call IsAdvance = Advance
written_call (IsReceive from datagram draws) = Receive (plain from) datagram
written_call (IsTick draws) = Tick
written_call call = Other

-- the nonce of a call that draws nothing
abbrev pub no_nonce : List ℕ
no_nonce = replicate 16 0

abbrev pub written_nonce : Call → List ℕ
written_nonce (IsOpen peer candidates draws) = draws.nonce
written_nonce (IsSeek name candidates draws) = draws.nonce
written_nonce (IsReceive from datagram draws) = draws.nonce
written_nonce (IsTick draws) = draws.nonce
written_nonce call = no_nonce

-- None of an entry that isn't written.
abbrev pub written_entry : Entry → Option LogEntry
written_entry (IsFact fact) = Some (Fact fact)
written_entry (IsClosed near) = Some (Closed near)
written_entry (IsSought near name) = Some (Sought near name)
written_entry (IsUnsought near why) = Some (Unsought near why)
written_entry (IsLearnt generation) = Some (Learnt generation)
written_entry (IsAdvanced generation) = Some (Advanced generation)
written_entry (IsOut to datagram context) = Some (Out (plain to) datagram context)
written_entry entry = None

abbrev pub entry_lines : List Entry → List LogLine
entry_lines entries = map EntryIs (filter_map written_entry entries)

-- the line of this call, and those of these entries
abbrev pub lines_said : List ℕ → ℕ → List ℕ → LogCall → List Entry → List LogLine
lines_said name moment nonce call entries =
    EventIs name (record { moment = moment; nonce = nonce; call = call }) ∷ entry_lines entries

-- the lines of an event of the end with this name; the moment is the largest that the end was given
-- so far
abbrev pub event_lines : List ℕ → ℕ → Event → List LogLine
event_lines name moment e =
    lines_said name moment (written_nonce e.call) (written_call e.call) e.entries

-- the line of what the end with this name was given first
abbrev pub head_line : List ℕ → Setup → LogLine
head_line name setup = LogIs name (record {
  max_peers = setup.config.max_peers;
  max_sessions = setup.config.max_sessions;
  generation = setup.generation;
  secret = setup.secret;
  cookie_secret = setup.cookie_secret;
  cert = setup.cert;
})

-- ---- texts

-- lines, each with its LF
abbrev pub text_of : List LogLine → List ℕ
text_of [] = []
text_of (line ∷ lines) = line_text line ++ (codes "\n" ++ text_of lines)

-- the lines of the events of a history, the oldest first; the ends have these names
abbrev pub journal_lines : (ℕ → List ℕ) → History → List LogLine
journal_lines names [] = []
journal_lines names (h ∷ earlier) = journal_lines names earlier ++
    event_lines (names h.who) (moment_at (last_moment 0 (log_of h.who earlier)) h.event) h.event

-- the lines of what the ends from this number on were given first
abbrev pub head_lines : (ℕ → List ℕ) → ℕ → List Setup → List LogLine
head_lines names who [] = []
head_lines names who (setup ∷ setups) =
    head_line (names who) setup ∷ head_lines names (who + 1) setups

-- the text of the logs of these ends
abbrev pub journal_text : (ℕ → List ℕ) → List Setup → History → List ℕ
journal_text names setups history = text_of (head_lines names 0 setups) ++
    text_of (journal_lines names history)

-- ---- as the writer is given it

-- the call that is written
abbrev pub said : SaidCall → LogCall
said (given.Open peer tag) = Open peer.now tag.now
said (given.Seek name tag) = Seek name.now tag.now
said (given.Cancel n) = Cancel n
said (given.Unseek near) = Unseek near
said (given.Close near) = Close near
said (given.Learn secret) = Learn secret.now
said given.Advance = Advance
said (given.Receive from datagram) = Receive (plain from.now) datagram.now
said given.Tick = Tick
said given.Other = Other
