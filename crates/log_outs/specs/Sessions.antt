-- In which session a datagram goes out, by what is kept.
use Rattle.std.specs.Prelude.{ℕ, List, ◌≡◌, ◌==◌, ◌<◌, ◌^◌, Bool, true, false, ◌&&◌, Option, Some, None, if◌then◌else◌}
use Rattle.std.specs.FinMap.{get}
use Rattle.crypto_profile.specs.declared.keys.Context.{Context}
use Rattle.crypto_profile.specs.declared.keys.Context.TheVariants.{Startup, Session}
use Rattle.crypto_profile.specs.Keys.{same_context}
use Rattle.glare_core.specs.declared.facts.Held.{Held}
use Rattle.glare_core.specs.declared.facts.Held.TheVariants.{Opening, HalfOpen, KeptAsResponder, KeptAsInitiator}
use Rattle.glare_core.specs.declared.facts.Joined.{Joined}
use Rattle.glare_core.specs.Tells.{as_initiator, as_responder}
use Rattle.glare_core.specs.Things.{near_of}
use Rattle.endpoint_laws.specs.Past.{Past, IsClosing}
use Rattle.endpoint_laws.specs.Contexts.{session_context}
use Rattle.log_digest.specs.Kept.{Digested}
use Rattle.log_contexts.specs.Kept.{KeptContexts, generation_in}
use Rattle.log_outs.specs.Standing.{standing_at}

-- What is closing under a session ID had that one while it was held.
abbrev pub ClosesOwn : Past → Type 0
ClosesOwn past = (near : ℕ) (thing : Held) (at : ℕ) → IsClosing near thing at past →
    near_of thing ≡ near

-- the session ID of this end in the context of a session in which it sends
abbrev pub near_side : Context → ℕ
near_side (Startup generation) = 0
near_side (Session generation ni nr fp_i fp_r sid_i sid_r to_responder) =
    if to_responder then sid_i else sid_r

-- Whether a session sends in this context under this session ID: one that was born here and began
-- in this generation, and one that was opened here.
abbrev pub is_born_in_way : List ℕ → Option ℕ → Joined → Context → ℕ → Bool
is_born_in_way own None j context sid = false
is_born_in_way own (Some began) j context sid =
    (j.far == sid) && same_context (session_context began (as_responder own j) false) context

abbrev pub is_opened_in_way : List ℕ → Option ℕ → Joined → Context → ℕ → Bool
is_opened_in_way own None j context sid = false
is_opened_in_way own (Some began) j context sid =
    (j.far == sid) && same_context (session_context began (as_initiator own j) true) context

-- whether what stands does
abbrev pub is_in_way : List ℕ → Option ℕ → Option Held → Context → ℕ → Bool
is_in_way own began None context sid = false
is_in_way own began (Some (Opening n near ni)) context sid = false
is_in_way own began (Some (HalfOpen j)) context sid = is_born_in_way own began j context sid
is_in_way own began (Some (KeptAsResponder j)) context sid = is_born_in_way own began j context sid
is_in_way own began (Some (KeptAsInitiator j)) context sid =
    is_opened_in_way own began j context sid

-- whether what stands under this session ID does
abbrev pub stands_on : List ℕ → Digested → KeptContexts → ℕ → Context → ℕ → Bool
stands_on own d c near context sid =
    is_in_way own (generation_in (get c.sessions near)) (standing_at near d) context sid

abbrev pub is_in_session : List ℕ → Digested → KeptContexts → Context → ℕ → Bool
is_in_session own d c (Startup generation) sid = true
is_in_session own d c (Session generation ni nr fp_i fp_r sid_i sid_r to_responder) sid =
    stands_on own d c (if to_responder then sid_i else sid_r)
    (Session generation ni nr fp_i fp_r sid_i sid_r to_responder) sid

-- The far session ID of a session is one of 32 bits.
abbrev pub IsSmall : Option Held → Type 0
IsSmall None = Unit {0}
IsSmall (Some (Opening n near ni)) = Unit {0}
IsSmall (Some (HalfOpen j)) = j.far < 2 ^ 32
IsSmall (Some (KeptAsResponder j)) = j.far < 2 ^ 32
IsSmall (Some (KeptAsInitiator j)) = j.far < 2 ^ 32

abbrev pub IsSmallIn : Digested → Context → Type 0
IsSmallIn d (Startup generation) = Unit {0}
IsSmallIn d (Session generation ni nr fp_i fp_r sid_i sid_r to_responder) =
    IsSmall (standing_at (if to_responder then sid_i else sid_r) d)
