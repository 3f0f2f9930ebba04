-- In which of the contexts of its session ID a datagram opens, by how an end takes datagrams under
-- that session ID.
use Rattle.std.specs.Prelude.{ℕ, List, [], ◌∷◌, ◌≡◌, true, false, Option, Some, None}
use Rattle.crypto_profile.specs.declared.keys.Context.{Context}
use Rattle.crypto_profile.specs.declared.keys.Context.TheVariants.{Startup, Session}
use Rattle.glare_core.specs.declared.facts.Held.{Held}
use Rattle.glare_core.specs.declared.facts.Held.TheVariants.{Opening, HalfOpen, KeptAsResponder, KeptAsInitiator}
use Rattle.glare_core.specs.Tells.{as_initiator, as_responder}
use Rattle.endpoint_laws.specs.Contexts.{Secrets, OpensFirst, session_context}
use Rattle.log_packets.specs.Opening.{startup_of}
use Rattle.log_contexts.specs.declared.taking.Taking.{Taking}
use Rattle.log_contexts.specs.declared.taking.Taking.TheVariants.{Nothing, Startup as AsStartup, Attempt, Session as InThing}
use Rattle.log_arrivals.specs.declared.arrival.Arrival.{Arrival}
use Rattle.log_arrivals.specs.declared.arrival.Arrival.TheVariants.{Nowhere, Startup as InStartup, Session as InSession}

-- the context in which an end with this fingerprint takes datagrams for what it holds
abbrev pub inward_to : List ℕ → ℕ → Held → Context
inward_to own generation (Opening n near ni) = Startup generation
inward_to own generation (HalfOpen j) = session_context generation (as_responder own j) true
inward_to own generation (KeptAsResponder j) =
    session_context generation (as_responder own j) true
inward_to own generation (KeptAsInitiator j) =
    session_context generation (as_initiator own j) false

-- the contexts in which it takes datagrams, in order
abbrev pub contexts_to : List ℕ → Taking → List Context
contexts_to own Nothing = []
contexts_to own (AsStartup current next) = startup_of current next
contexts_to own (Attempt generation) = Startup generation ∷ []
contexts_to own (InThing thing generation) = inward_to own generation thing ∷ []

-- where a datagram opens that opens in this context
abbrev pub arrival_of : Option Context → Arrival
arrival_of None = Nowhere
arrival_of (Some (Startup generation)) = InStartup generation
arrival_of (Some (Session generation ni nr fp_i fp_r sid_i sid_r to_responder)) = InSession

-- The datagram opens in this one of these contexts, the first in which it does, if in any; it has
-- then this plain packet, and no other.
pub record IsOpenedFirst (secrets : Secrets) (contexts : List Context) (sid : ℕ) (bytes : List ℕ)
    (found : Option Context) (plain : List ℕ) : Type 0 where
  pub yes : (context : Context) → found ≡ Some context →
      OpensFirst secrets contexts sid bytes context plain
  pub no : (context : Context) (other : List ℕ) →
      OpensFirst secrets contexts sid bytes context other →
      (found ≡ Some context) × (other ≡ plain)
