-- What events and entries change of it.
use Rattle.std.specs.Prelude.{ℕ, List, [], ◌∷◌, Bool, false, Option, Some, None}
use Rattle.std.specs.FinMap.{get, insert}
use Rattle.crypto_profile.specs.declared.keys.Context.{Context}
use Rattle.crypto_profile.specs.declared.keys.Context.TheVariants.{Startup, Session as InSession}
use Rattle.glare_core.specs.declared.facts.Fact.{Fact}
use Rattle.glare_core.specs.declared.facts.Fact.TheVariants.{Started, Born, Opened, Confirmed, Ended}
use Rattle.endpoint_model.specs.declared.entry.Entry.{Entry}
use Rattle.endpoint_model.specs.Views.{Sending, NamedSearch, fact_in, out_in, sought_in}
use Rattle.log_digest.specs.Hearing.{nothing_heard, takes, heard_with}
use Rattle.log_contexts.specs.declared.threads.Thread.{Thread}
use Rattle.log_contexts.specs.declared.sessions.Session.{Session}
use Rattle.log_contexts.specs.Kept.{ThreadTable, SessionTable, KeptContexts, tag_in}

-- ---- attempts and searches

-- the tag that a call drew, or else the one before
abbrev pub drawn_or : Option (List ℕ) → Option (List ℕ) → Option (List ℕ)
drawn_or None before = before
drawn_or (Some tag) before = Some tag

-- An attempt or a search begins under a session ID: it has the tag that the call drew, or else the
-- one that was there, and no keying of it went out.
abbrev pub started : Option (List ℕ) → Option Thread → Thread
started drawn before = record { tag = drawn_or drawn (tag_in before); keying = None }

abbrev pub with_start : ℕ → Option (List ℕ) → ThreadTable → ThreadTable
with_start near drawn threads = insert threads near (started drawn (get threads near))

-- Its keying goes out in this generation.
abbrev pub keyed : ℕ → Option Thread → Thread
keyed generation before = record { tag = tag_in before; keying = Some generation }

abbrev pub with_keying : ℕ → ℕ → ThreadTable → ThreadTable
with_keying generation near threads = insert threads near (keyed generation (get threads near))

abbrev pub with_keyings : ℕ → List ℕ → ThreadTable → ThreadTable
with_keyings generation [] threads = threads
with_keyings generation (near ∷ more) threads =
    with_keyings generation more (with_keying generation near threads)

-- ---- sessions

-- the session ID of a session that begins
abbrev pub begun_id : Option Fact → Option ℕ
begun_id None = None
begun_id (Some (Started peer n near ni)) = None
begun_id (Some (Born j)) = Some j.near
begun_id (Some (Opened j)) = Some j.near
begun_id (Some (Confirmed peer near)) = None
begun_id (Some (Ended peer near why)) = None

-- a session that begins in this generation: it took nothing yet
abbrev pub begun_in : ℕ → Session
begun_in generation = record { generation = generation; hearing = nothing_heard }

-- a session that is given a datagram with this count
abbrev pub heard_by : ℕ → ℕ → Bool → Session → Session
heard_by count moment fits s =
    record { generation = s.generation; hearing = heard_with count moment fits s.hearing }

abbrev pub heard_if : ℕ → ℕ → ℕ → Bool → Option Session → SessionTable → SessionTable
heard_if near count moment fits None sessions = sessions
heard_if near count moment fits (Some s) sessions =
    insert sessions near (heard_by count moment fits s)

abbrev pub takes_if : ℕ → Bool → Option Session → Bool
takes_if count fits None = false
takes_if count fits (Some s) = takes count fits s.hearing

-- ---- events

-- once an event began, whose open or whose seek draws these
abbrev pub begun_with : Option (List ℕ) → Option (List ℕ) → KeptContexts → KeptContexts
begun_with opened sought c = record {
  opened = opened;
  sought = sought;
  threads = c.threads;
  sessions = c.sessions;
}

-- once an event began whose datagram opens in the session under this session ID
abbrev pub begun_in_session : ℕ → ℕ → ℕ → Bool → KeptContexts → KeptContexts
begun_in_session near count moment fits c = record {
  opened = None;
  sought = None;
  threads = c.threads;
  sessions = heard_if near count moment fits (get c.sessions near) c.sessions;
}

-- ---- entries

abbrev pub with_threads : ThreadTable → KeptContexts → KeptContexts
with_threads threads c = record {
  opened = c.opened;
  sought = c.sought;
  threads = threads;
  sessions = c.sessions;
}

-- A session begins under a session ID, where the generation is told in which its datagram opened.
abbrev pub with_session : ℕ → Option ℕ → KeptContexts → KeptContexts
with_session near None c = c
with_session near (Some generation) c = record {
  opened = c.opened;
  sought = c.sought;
  threads = c.threads;
  sessions = insert c.sessions near (begun_in generation);
}

-- with a fact; the datagram of its event opened in this generation
abbrev pub stated : Fact → Option ℕ → KeptContexts → KeptContexts
stated (Started peer n near ni) opened c = with_threads (with_start near c.opened c.threads) c
stated (Born j) opened c = with_session j.near opened c
stated (Opened j) opened c = with_session j.near opened c
stated (Confirmed peer near) opened c = c
stated (Ended peer near why) opened c = c

-- with initiators' keyings of these session IDs, which go out in startup contexts alone
abbrev pub sent_in : Context → List ℕ → KeptContexts → KeptContexts
sent_in (Startup generation) keyings c =
    with_threads (with_keyings generation keyings c.threads) c
sent_in (InSession generation ni nr fp_i fp_r sid_i sid_r to_responder) keyings c = c

abbrev pub added_by : Option Fact → Option NamedSearch → Option Sending → List ℕ → Option ℕ →
    KeptContexts → KeptContexts
added_by (Some fact) sought sent keyings opened c = stated fact opened c
added_by None (Some sought) sent keyings opened c =
    with_threads (with_start sought.near c.sought c.threads) c
added_by None None (Some sent) keyings opened c = sent_in sent.context keyings c
added_by None None None keyings opened c = c

-- with one more entry, in which keyings of these go out, and in whose event the datagram opened in
-- this generation
abbrev pub added : Entry → List ℕ → Option ℕ → KeptContexts → KeptContexts
added entry keyings opened c =
    added_by (fact_in entry) (sought_in entry) (out_in entry) keyings opened c
