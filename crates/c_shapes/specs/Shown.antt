-- The struct that rtmfp.h has for each entry.
use Rattle.std.specs.Prelude.{ℕ, List, [], length, replicate}
use denote.RawPtr.{Ptr, null_ptr}
use Rattle.rtmfp_base.specs.declared.cause.Cause.{Cause}
use Rattle.rtmfp_base.specs.declared.cause.Cause.TheVariants as cause
use Rattle.glare_core.specs.declared.facts.Why.{Why}
use Rattle.glare_core.specs.declared.facts.Why.TheVariants as why
use Rattle.glare_core.specs.declared.facts.Joined.{Joined}
use Rattle.glare_core.specs.declared.facts.Fact.{Fact}
use Rattle.glare_core.specs.declared.facts.Fact.TheVariants as fact
use Rattle.endpoint_model.specs.declared.entry.Entry.{Entry}
use Rattle.endpoint_model.specs.declared.entry.Entry.TheVariants as entry
use Rattle.c_shapes.specs.declared.shapes.CEntry.{CEntry}
use Rattle.c_shapes.specs.Shapes.{nowhere, shown_address}

-- an entry that tells its kind alone
abbrev pub blank : ℕ → CEntry
blank kind = record {
  kind = kind;
  near = 0;
  far = 0;
  code = 0;
  flow = 0;
  seq = 0;
  number = 0;
  k = 0;
  at = null_ptr;
  len = 0;
  to = nowhere;
  peer = replicate 32 0;
  ni = replicate 16 0;
  nr = replicate 16 0;
}

abbrev pub why_number : Why → ℕ
why_number why.Cancelled = 1
why_number why.Expired = 2
why_number why.Glare = 3
why_number why.Override = 4
why_number why.Unconfirmed = 5
why_number why.Near = 6
why_number why.Far = 7
why_number why.Idle = 8

-- the number of a cause, and its value
abbrev pub cause_shown : Cause → ℕ × ℕ
cause_shown cause.Short = (1, 0)
cause_shown cause.UnknownSession = (2, 0)
cause_shown cause.BadTag = (3, 0)
cause_shown cause.Repeated = (4, 0)
cause_shown (cause.BadPacket fault) = (5, fault)
cause_shown (cause.UnknownChunk kind) = (6, kind)
cause_shown (cause.Malformed offset) = (7, offset)
cause_shown cause.WrongPlace = (8, 0)
cause_shown cause.NotSelected = (9, 0)
cause_shown cause.NoAttempt = (10, 0)
cause_shown cause.WrongPeer = (11, 0)
cause_shown cause.WrongState = (12, 0)
cause_shown cause.BadCookie = (13, 0)
cause_shown cause.BadSignature = (14, 0)
cause_shown cause.WrongResponder = (15, 0)
cause_shown cause.OwnCertificate = (16, 0)
cause_shown (cause.Stale seen) = (17, seen)
cause_shown (cause.Glare n) = (18, n)
cause_shown (cause.PeersFull count) = (19, count)
cause_shown (cause.SessionsFull count) = (20, count)
cause_shown cause.SecondKeying = (21, 0)
cause_shown cause.UnknownFlow = (22, 0)
cause_shown (cause.BeyondBuffer held) = (23, held)
cause_shown (cause.AfterFinal number) = (24, number)
cause_shown (cause.AckBeyond number) = (25, number)
cause_shown (cause.CandidatesFull count) = (26, count)
cause_shown cause.Fragment = (27, 0)
cause_shown (cause.FlowsFull count) = (28, count)
cause_shown (cause.Wide count) = (29, count)
cause_shown (cause.AlreadyHeld near) = (30, near)
cause_shown cause.AttemptsSpent = (31, 0)
cause_shown (cause.Piece refusal told) = (32, told)
cause_shown (cause.BadWhole fault) = (33, fault)

-- the number of the refusal of a piece; 0 for any other cause
abbrev pub refusal_shown : Cause → ℕ
refusal_shown (cause.Piece refusal told) = refusal
refusal_shown c = 0

-- a fact of a session has all its values
abbrev pub shown_joined : ℕ → Joined → CEntry
shown_joined kind j = record (blank kind) {
  near = j.near;
  far = j.far;
  number = j.n;
  k = j.k;
  peer = j.peer;
  ni = j.ni;
  nr = j.nr;
}

abbrev pub shown_fact : Fact → CEntry
shown_fact (fact.Started peer n near ni) =
    record (blank 3) { near = near; number = n; peer = peer; ni = ni }
shown_fact (fact.Born joined) = shown_joined 4 joined
shown_fact (fact.Opened joined) = shown_joined 5 joined
shown_fact (fact.Confirmed peer near) = record (blank 6) { near = near; peer = peer }
shown_fact (fact.Ended peer near reason) =
    record (blank 7) { near = near; peer = peer; code = why_number reason }

-- one of a session's flows
abbrev pub shown_flow : ℕ → ℕ → ℕ → ℕ → CEntry
shown_flow kind near flow seq = record (blank kind) { near = near; flow = flow; seq = seq }

-- the bytes of a datagram, a message or a name; none of any other entry
abbrev pub bytes_of : Entry → List ℕ
bytes_of (entry.Out to datagram context) = datagram
bytes_of (entry.Handed near flow seq message) = message
bytes_of (entry.Fact f) = []
bytes_of (entry.Closed near) = []
bytes_of (entry.Sought near name) = name
bytes_of (entry.Unsought near reason) = []
bytes_of (entry.Moved near to) = []
bytes_of (entry.Learnt generation) = []
bytes_of (entry.Advanced generation) = []
bytes_of (entry.FlowOpened near flow) = []
bytes_of (entry.Queued near flow seq message) = message
bytes_of (entry.Finished near flow seq) = []
bytes_of (entry.Abandoned near flow seq) = []
bytes_of (entry.Discard place c) = []

-- The struct of an entry, whose bytes, if it has any, stand at this address.
abbrev pub shown : Ptr → Entry → CEntry
shown at (entry.Out to datagram context) =
    record (blank 1) { to = shown_address to; at = at; len = length datagram }
shown at (entry.Handed near flow seq message) =
    record (shown_flow 2 near flow seq) { at = at; len = length message }
shown at (entry.Fact f) = shown_fact f
shown at (entry.Closed near) = record (blank 8) { near = near }
shown at (entry.Sought near name) =
    record (blank 15) { near = near; at = at; len = length name }
shown at (entry.Unsought near reason) = record (blank 16) { near = near; code = why_number reason }
shown at (entry.Moved near to) = record (blank 9) { near = near; to = shown_address to }
shown at (entry.Learnt generation) = record (blank 17) { number = generation }
shown at (entry.Advanced generation) = record (blank 18) { number = generation }
shown at (entry.FlowOpened near flow) = shown_flow 10 near flow 0
shown at (entry.Queued near flow seq message) =
    record (shown_flow 11 near flow seq) { at = at; len = length message }
shown at (entry.Finished near flow seq) = shown_flow 12 near flow seq
shown at (entry.Abandoned near flow seq) = shown_flow 13 near flow seq
shown at (entry.Discard place c) = record (blank 14) {
  seq = place;
  code = (cause_shown c).0;
  number = (cause_shown c).1;
  k = refusal_shown c;
}
