-- What the entries of ends tell of the messages of flows. A flow is named by the context in which
-- its messages go.
use Rattle.std.specs.Prelude.{ℕ, ◌≡◌, ◌==◌, if◌then◌else◌, true, false, List, [], ◌∷◌, ◌++◌}
use Rattle.std.specs.Prelude.{Option, Some, None}
use Rattle.glare_core.specs.declared.facts.Fact.{Fact}
use Rattle.glare_core.specs.declared.facts.Fact.TheVariants.{Born, Opened}
use Rattle.glare_core.specs.declared.facts.Joined.{Joined}
use Rattle.glare_core.specs.Tells.{as_initiator, as_responder}
use Rattle.session_core.specs.declared.stage.Role.{Role}
use Rattle.session_core.specs.declared.stage.Role.TheVariants.{Initiator, Responder}
use Rattle.endpoint_model.specs.declared.entry.Entry.{Entry}
use Rattle.endpoint_model.specs.declared.entry.Entry.TheVariants as entry
use Rattle.endpoint_model.specs.Event.{Setup, own_of}
use Rattle.endpoint_model.specs.Views.{fact_in}
use Rattle.endpoint_laws.specs.Past.{fact_and}
use Rattle.endpoint_laws.specs.History.{History, facts_at}
use Rattle.flow_history.specs.Deeds.{Context, back, name}
use Rattle.flow_history.specs.Log.{Entry as Tell, Queued, Abandoned, Handed}

-- ---- the context of a session ID

-- the context in which an end of this role sends in a session
abbrev pub sends_in : Role → List ℕ → Joined → Context
sends_in Initiator own j = record { session = as_initiator own j; to_responder = true }
sends_in Responder own j = record { session = as_responder own j; to_responder = false }

-- A session that begins takes its session ID over.
abbrev pub context_with : List ℕ → ℕ → Fact → Option Context → Option Context
context_with own near (Born j) before =
    if j.near == near then Some (sends_in Responder own j) else before
context_with own near (Opened j) before =
    if j.near == near then Some (sends_in Initiator own j) else before
context_with own near fact before = before

-- The context in which an end sends in the session under a session ID: that of the session which
-- began under it last, by the facts of this end, the newest first.
abbrev pub sending_context : List ℕ → ℕ → List Fact → Option Context
sending_context own near [] = None
sending_context own near (fact ∷ earlier) =
    context_with own near fact (sending_context own near earlier)

-- ---- what is told

abbrev pub told_in : Option Context → (Context → Tell) → List Tell
told_in None tell = []
told_in (Some context) tell = tell context ∷ []

-- Messages are queued and abandoned in flows that go away from this end, and handed over in flows
-- towards it.
abbrev pub told_at : List ℕ → List Fact → Entry → List Tell
told_at own facts (entry.Queued near flow seq message) =
    told_in (sending_context own near facts)
    (λ (c : Context). Queued (name c flow) (record { number = seq; bytes = message }))
told_at own facts (entry.Abandoned near flow seq) =
    told_in (sending_context own near facts) (λ (c : Context). Abandoned (name c flow) seq)
told_at own facts (entry.Handed near flow seq message) =
    told_in (sending_context own near facts)
    (λ (c : Context). Handed (name (back c) flow) (record { number = seq; bytes = message }))
told_at own facts entry = []

-- the facts of an end after these entries, the newest first
abbrev pub facts_onto : List Entry → List Fact → List Fact
facts_onto [] facts = facts
facts_onto (entry ∷ rest) facts = facts_onto rest (fact_and (fact_in entry) facts)

-- What these entries tell, on top of what was told before. Each fact among them counts for those
-- after it.
abbrev pub told_onto : List ℕ → List Fact → List Entry → List Tell → List Tell
told_onto own facts [] before = before
told_onto own facts (entry ∷ rest) before =
    told_onto own (fact_and (fact_in entry) facts) rest (told_at own facts entry ++ before)

-- the session ID of a session in which a message is queued, abandoned or handed over
abbrev pub message_in : Entry → Option ℕ
message_in (entry.Queued near flow seq message) = Some near
message_in (entry.Abandoned near flow seq) = Some near
message_in (entry.Handed near flow seq message) = Some near
message_in entry = None

-- By these facts a session has begun under the session ID.
abbrev pub HasContext : List ℕ → List Fact → Option ℕ → Type 0
HasContext own facts None = Unit {0}
HasContext own facts (Some near) = (c : Context) × (sending_context own near facts ≡ Some c)

-- Each message of these entries is of such a session, so none of them goes untold.
abbrev pub AllHaveContext : List ℕ → List Fact → List Entry → Type 0
AllHaveContext own facts [] = Unit {0}
AllHaveContext own facts (entry ∷ rest) = HasContext own facts (message_in entry)
    × AllHaveContext own (fact_and (fact_in entry) facts) rest

-- what the ends of a history tell, the newest first
abbrev pub told : (ℕ → Setup) → History → List Tell
told ends [] = []
told ends (h ∷ earlier) =
    told_onto (own_of (ends h.who)) (facts_at h.who earlier) h.event.entries (told ends earlier)

-- the same at all ends
abbrev pub AllTold : (ℕ → Setup) → History → Type 0
AllTold ends [] = Unit {0}
AllTold ends (h ∷ earlier) =
    AllHaveContext (own_of (ends h.who)) (facts_at h.who earlier) h.event.entries
    × AllTold ends earlier
