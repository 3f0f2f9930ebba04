-- What an end did so far: the events that began and the entries that were added, the newest first,
-- each with the moment of its event. Whoever says how it grows, or asks of it, does so by the names
-- below.
use Rattle.std.specs.Prelude.{ℕ, List, [], ◌∷◌, ◌+◌, ◌==◌, ◌≡◌, ◌≢◌, ◌⊎◌, not, filter, Bool, true, false, if◌then◌else◌, Option, Some, None}
use Rattle.std.specs.List.{list_any}
use Rattle.glare_core.specs.declared.facts.Why.{Why}
use Rattle.glare_core.specs.declared.facts.Why.TheVariants.{Cancelled, Expired, Glare, Override, Unconfirmed, Near, Far, Idle}
use Rattle.glare_core.specs.declared.facts.Held.{Held}
use Rattle.glare_core.specs.declared.facts.Fact.{Fact}
use Rattle.glare_core.specs.declared.facts.Fact.TheVariants.{Started, Born, Opened, Confirmed, Ended}
use Rattle.glare_core.specs.Standing.{held}
use Rattle.endpoint_model.specs.declared.entry.Entry.{Entry}
use Rattle.endpoint_model.specs.declared.entry.Entry.TheVariants.{Fact as FactEntry}
use Rattle.endpoint_model.specs.Event.{Setup, OpenCall, SeekCall, ReceiveCall, open_in, seek_in, receive_in, learn_in, Call, Answer, Began, Searching, Succeeds, Done, NotOpened, NotSought, Refused, NotAdded, Stopped, OutOfMemory, Event, moment_at}
use Rattle.endpoint_model.specs.Views.{Sending, NamedSearch, EndedSearch, fact_in, out_in, closed_in, sought_in, unsought_in, learnt_in, advanced_in}

-- what happened: an event began, or an entry was added in it
pub data Happening : Type 0 where
  OfEvent : (event : Event) → Happening
  OfEntry : (entry : Entry) → Happening

pub record Stamped : Type 0 where
  pub moment : ℕ
  pub what : Happening

-- the past itself, the newest first
abbrev pub Past : Type 0
Past = List Stamped

abbrev pub begun : ℕ → Event → Stamped
begun moment e = record { moment = moment; what = OfEvent e }

abbrev pub stamped : ℕ → Entry → Stamped
stamped moment entry = record { moment = moment; what = OfEntry entry }

-- ---- how it grows

abbrev pub nothing_done : Past
nothing_done = []

-- an event that began, on top of what was done before
abbrev pub with_begun : ℕ → Event → Past → Past
with_begun moment e past = begun moment e ∷ past

-- an entry, on top of what was done before
abbrev pub with_entry : ℕ → Entry → Past → Past
with_entry moment entry past = stamped moment entry ∷ past

-- a fact, as such an entry
abbrev pub with_fact : ℕ → Fact → Past → Past
with_fact moment fact past = with_entry moment (FactEntry fact) past

-- entries of one event, in their order, on top of what was done before
abbrev pub onto : ℕ → List Entry → Past → Past
onto moment [] past = past
onto moment (entry ∷ rest) past = onto moment rest (with_entry moment entry past)

-- an event and its entries, on top of what was done before
abbrev pub with_event : ℕ → Event → Past → Past
with_event moment e past = onto moment e.entries (with_begun moment e past)

-- the moment of the last event, and what was done, after these events, the oldest first
abbrev pub last_moment : ℕ → List Event → ℕ
last_moment last [] = last
last_moment last (e ∷ events) = last_moment (moment_at last e) events

abbrev pub past_of : ℕ → Past → List Event → Past
past_of last past [] = past
past_of last past (e ∷ events) =
    past_of (moment_at last e) (with_event (moment_at last e) e past) events

-- what an end with this log did
abbrev pub past_of_log : List Event → Past
past_of_log log = past_of 0 nothing_done log

-- ---- facts

abbrev pub fact_done : Happening → Option Fact
fact_done (OfEvent event) = None
fact_done (OfEntry entry) = fact_in entry

-- a fact on top of others, where there is one
abbrev pub fact_and : Option Fact → List Fact → List Fact
fact_and None facts = facts
fact_and (Some fact) facts = fact ∷ facts

-- the facts, the newest first
abbrev pub facts_of : Past → List Fact
facts_of [] = []
facts_of (s ∷ earlier) = fact_and (fact_done s.what) (facts_of earlier)

-- This was done before.
abbrev pub WasDone : Stamped → Past → Type 0
WasDone done [] = ⊥
WasDone done (s ∷ earlier) = (done ≡ s) ⊎ WasDone done earlier

-- This fact was stated at this moment.
abbrev pub WasStated : ℕ → Fact → Past → Type 0
WasStated moment fact past = WasDone (stamped moment (FactEntry fact)) past

-- ---- datagrams that went out

abbrev pub out_done : Happening → Option Sending
out_done (OfEvent event) = None
out_done (OfEntry entry) = out_in entry

-- Something that was done is so, judged by the datagram that went out with it, where one did.
abbrev pub WentOut : (Option Sending → Type 0) → Past → Type 0
WentOut so [] = ⊥
WentOut so (s ∷ earlier) = so (out_done s.what) ⊎ WentOut so earlier

-- one for a datagram that goes out
abbrev pub out_count : Option Sending → ℕ
out_count None = 0
out_count (Some sent) = 1

-- how many went out
abbrev pub outs_of : Past → ℕ
outs_of [] = 0
outs_of (s ∷ earlier) = out_count (out_done s.what) + outs_of earlier

-- ---- closing

abbrev pub closed_done : Happening → Option ℕ
closed_done (OfEvent event) = None
closed_done (OfEntry entry) = closed_in entry

-- After these ends a session is closing: this end or the peer closed it.
abbrev pub is_close : Why → Bool
is_close Cancelled = false
is_close Expired = false
is_close Glare = false
is_close Override = false
is_close Unconfirmed = false
is_close Near = true
is_close Far = true
is_close Idle = false

-- The fact closes this thing, which was held under this session ID.
abbrev pub Closes : ℕ → Held → List Fact → Option Fact → Type 0
Closes near thing before None = ⊥
Closes near thing before (Some (Started peer n id ni)) = ⊥
Closes near thing before (Some (Born j)) = ⊥
Closes near thing before (Some (Opened j)) = ⊥
Closes near thing before (Some (Confirmed peer id)) = ⊥
Closes near thing before (Some (Ended peer id why)) =
    (id ≡ near) × (is_close why ≡ true) × (held peer before ≡ Some thing)

-- It isn't over.
abbrev pub GoesOn : ℕ → Option ℕ → Type 0
GoesOn near None = Unit {0}
GoesOn near (Some id) = id ≢ near

-- The session under this session ID is closing: this thing was closed at this moment, and its
-- closing isn't over since.
abbrev pub IsClosing : ℕ → Held → ℕ → Past → Type 0
IsClosing near thing at [] = ⊥
IsClosing near thing at (s ∷ earlier) =
    (Closes near thing (facts_of earlier) (fact_done s.what) × (s.moment ≡ at)) ⊎
    (GoesOn near (closed_done s.what) × IsClosing near thing at earlier)

-- ---- searches

abbrev pub sought_done : Happening → Option NamedSearch
sought_done (OfEvent event) = None
sought_done (OfEntry entry) = sought_in entry

abbrev pub unsought_done : Happening → Option EndedSearch
unsought_done (OfEvent event) = None
unsought_done (OfEntry entry) = unsought_in entry

-- the call of the last event that began
abbrev pub call_done : Happening → Option Call → Option Call
call_done (OfEvent event) before = Some event.call
call_done (OfEntry entry) before = before

abbrev pub last_call : Past → Option Call
last_call [] = None
last_call (s ∷ earlier) = call_done s.what (last_call earlier)

-- the seek that it is
abbrev pub seek_of : Option Call → Option SeekCall
seek_of None = None
seek_of (Some call) = seek_in call

-- what a search looks for, and the tag and the nonce that its seek drew
pub record Search : Type 0 where
  pub name : List ℕ
  pub tag : List ℕ
  pub ni : List ℕ

-- The call draws this tag and this nonce.
abbrev pub DrawsFor : Search → Option SeekCall → Type 0
DrawsFor which None = ⊥
DrawsFor which (Some seek) = (which.tag ≡ seek.draws.tag) × (which.ni ≡ seek.draws.nonce)

-- The search begins under this session ID, by an event of this call.
abbrev pub WasSought : ℕ → Search → Option NamedSearch → Option Call → Type 0
WasSought near which None call = ⊥
WasSought near which (Some sought) call = (sought.near ≡ near) × (sought.name ≡ which.name) ×
    DrawsFor which (seek_of call)

-- the session ID of a search that is over, that of an attempt that starts, and that of a search that
-- begins
abbrev pub unsought_id : Option EndedSearch → Option ℕ
unsought_id None = None
unsought_id (Some ended) = Some ended.near

abbrev pub started_id : Option Fact → Option ℕ
started_id None = None
started_id (Some (Started peer n near ni)) = Some near
started_id (Some (Born j)) = None
started_id (Some (Opened j)) = None
started_id (Some (Confirmed peer near)) = None
started_id (Some (Ended peer near why)) = None

abbrev pub sought_id : Option NamedSearch → Option ℕ
sought_id None = None
sought_id (Some sought) = Some sought.near

-- A search stands under this session ID, which began at this moment: it was sought, and since then
-- neither was it over nor did an attempt start under its session ID.
abbrev pub IsSearch : ℕ → Search → ℕ → Past → Type 0
IsSearch near which at [] = ⊥
IsSearch near which at (s ∷ earlier) =
    (WasSought near which (sought_done s.what) (last_call earlier) × (s.moment ≡ at)) ⊎
    (GoesOn near (unsought_id (unsought_done s.what)) ×
    GoesOn near (started_id (fact_done s.what)) × IsSearch near which at earlier)

-- ---- the tags of hellos

-- the open that it is
abbrev pub open_of : Option Call → Option OpenCall
open_of None = None
open_of (Some call) = open_in call

-- the tag that an open draws, and that a seek draws; and this one, where it is none
abbrev pub opened_tag : Option OpenCall → Option (List ℕ) → Option (List ℕ)
opened_tag None before = before
opened_tag (Some o) before = Some o.draws.tag

abbrev pub sought_tag : Option SeekCall → Option (List ℕ) → Option (List ℕ)
sought_tag None before = before
sought_tag (Some seek) before = Some seek.draws.tag

-- one tag under this session ID where something begins under it, and else the other
abbrev pub tag_if : ℕ → Option ℕ → Option (List ℕ) → Option (List ℕ) → Option (List ℕ)
tag_if near None new before = before
tag_if near (Some id) new before = if id == near then new else before

-- The tag of the hellos of the attempt or the search that began last under this session ID: the one
-- that its open or its seek drew. A search that becomes an attempt keeps its tag.
abbrev pub tag_of : ℕ → Past → Option (List ℕ)
tag_of near [] = None
tag_of near (s ∷ earlier) =
    tag_if near (sought_id (sought_done s.what))
    (sought_tag (seek_of (last_call earlier)) (tag_of near earlier))
    (tag_if near (started_id (fact_done s.what))
    (opened_tag (open_of (last_call earlier)) (tag_of near earlier)) (tag_of near earlier))

-- ---- session IDs

-- the session IDs without one
abbrev pub without_id : ℕ → List ℕ → List ℕ
without_id near ids = filter (λ id. not (id == near)) ids

-- The session IDs in use after a fact. A search that becomes an attempt had its session ID already.
abbrev pub ids_after : Option Fact → List ℕ → List ℕ
ids_after None ids = ids
ids_after (Some (Started peer n near ni)) ids = near ∷ without_id near ids
ids_after (Some (Born j)) ids = j.near ∷ ids
ids_after (Some (Opened j)) ids = ids
ids_after (Some (Confirmed peer near)) ids = ids
ids_after (Some (Ended peer near why)) ids =
    if is_close why then ids else without_id near ids

-- and after a closing or a search is over
abbrev pub ids_left : Option ℕ → List ℕ → List ℕ
ids_left None ids = ids
ids_left (Some near) ids = without_id near ids

-- and after a search begins
abbrev pub ids_sought : Option NamedSearch → List ℕ → List ℕ
ids_sought None ids = ids
ids_sought (Some sought) ids = sought.near ∷ ids

-- The session IDs that are in use: those of searches, and of the things that are held or closing,
-- from their Sought, Started or Born until their Unsought, Ended or Closed.
abbrev pub ids_in_use : Past → List ℕ
ids_in_use [] = []
ids_in_use (s ∷ earlier) =
    ids_sought (sought_done s.what) (ids_left (unsought_id (unsought_done s.what))
    (ids_left (closed_done s.what) (ids_after (fact_done s.what) (ids_in_use earlier))))

-- whether a session ID is in use
abbrev pub is_in_use : ℕ → Past → Bool
is_in_use near past = list_any (λ id. id == near) (ids_in_use past)

-- ---- the datagrams since a session began

-- a datagram that a call was given, with the moment
pub record Taken : Type 0 where
  pub moment : ℕ
  pub datagram : List ℕ

-- A call that found no memory before it took its datagram didn't take it.
abbrev pub was_gone_through : Answer → Bool
was_gone_through (Began n) = true
was_gone_through (Searching near) = true
was_gone_through (Succeeds generation) = true
was_gone_through Done = true
was_gone_through (NotOpened refusal) = true
was_gone_through (NotSought refusal) = true
was_gone_through (Refused refusal) = true
was_gone_through (NotAdded refusal) = true
was_gone_through (Stopped stop) = stop.taken
was_gone_through OutOfMemory = true

abbrev pub datagram_of : Option ReceiveCall → Option (List ℕ)
datagram_of None = None
datagram_of (Some r) = Some r.datagram

-- the datagram of a happening that is such a call
abbrev pub datagram_in : Happening → Option (List ℕ)
datagram_in (OfEvent event) =
    if was_gone_through event.answer then datagram_of (receive_in event.call) else None
datagram_in (OfEntry entry) = None

-- The fact begins the session under this session ID.
abbrev pub begins : ℕ → Option Fact → Bool
begins near None = false
begins near (Some (Started peer n id ni)) = false
begins near (Some (Born j)) = j.near == near
begins near (Some (Opened j)) = j.near == near
begins near (Some (Confirmed peer id)) = false
begins near (Some (Ended peer id why)) = false

abbrev pub taken_and : ℕ → Option (List ℕ) → List Taken → List Taken
taken_and moment None earlier = earlier
taken_and moment (Some datagram) earlier =
    record { moment = moment; datagram = datagram } ∷ earlier

-- the datagrams that calls were given since that session began, the newest first
abbrev pub taken_since : ℕ → Past → List Taken
taken_since near [] = []
taken_since near (s ∷ earlier) = if begins near (fact_done s.what) then []
    else taken_and s.moment (datagram_in s.what) (taken_since near earlier)

-- ---- generations of the group's secret

abbrev pub learnt_done : Happening → Option ℕ
learnt_done (OfEvent event) = None
learnt_done (OfEntry entry) = learnt_in entry

abbrev pub advanced_done : Happening → Option ℕ
advanced_done (OfEvent event) = None
advanced_done (OfEntry entry) = advanced_in entry

-- the number after an Advanced, where there is one
abbrev pub current_after : Option ℕ → ℕ → ℕ
current_after None current = current
current_after (Some generation) current = generation

-- the current generation: that of the last Advanced, or the first one
abbrev pub current_of : Setup → Past → ℕ
current_of setup [] = setup.generation
current_of setup (s ∷ earlier) =
    current_after (advanced_done s.what) (current_of setup earlier)

-- the next generation after an Advanced, and after a Learnt, where there is one
abbrev pub next_left : Option ℕ → Option ℕ → Option ℕ
next_left None next = next
next_left (Some generation) None = None
next_left (Some generation) (Some next) = if next == generation then None else Some next

abbrev pub next_after : Option ℕ → Option ℕ → Option ℕ
next_after None next = next
next_after (Some generation) next = Some generation

-- the next generation, which is known from its Learnt to the Advanced of its number
abbrev pub next_of : Past → Option ℕ
next_of [] = None
next_of (s ∷ earlier) =
    next_after (learnt_done s.what) (next_left (advanced_done s.what) (next_of earlier))

-- the secret that a call learns, and the datagram that a call is given
abbrev pub learn_of : Option Call → Option (List ℕ)
learn_of None = None
learn_of (Some call) = learn_in call

abbrev pub receive_of : Option Call → Option ReceiveCall
receive_of None = None
receive_of (Some call) = receive_in call

-- This secret was learnt with this number: by a Learnt of an event whose call learns it.
abbrev pub WasLearnt : ℕ → List ℕ → Past → Type 0
WasLearnt generation secret [] = ⊥
WasLearnt generation secret (s ∷ earlier) = ((learnt_done s.what ≡ Some generation) ×
    (learn_of (last_call earlier) ≡ Some secret)) ⊎ WasLearnt generation secret earlier

abbrev pub is_event : Happening → Bool
is_event (OfEvent event) = true
is_event (OfEntry entry) = false

-- what was done before the last event began
abbrev pub before_event : Past → Past
before_event [] = []
before_event (s ∷ earlier) = if is_event s.what then earlier else before_event earlier
