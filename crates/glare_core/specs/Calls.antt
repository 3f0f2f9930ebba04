-- What each call on a ledger answers.
use Rattle.std.specs.Prelude.{ℕ, List, [], ◌∷◌, ◌+◌, ◌-◌, ◌^◌, ◌==◌, Bool, not, ◌&&◌, nat_le, Option, Some, None, Result, Ok, Err, is_some, is_none, if◌then◌else◌, ◌≡◌, IsSome}
use Rattle.std.specs.Str.{bytes_eq}
use Rattle.rtmfp_base.specs.Reasons.{where_true, first_that_stands}
use Rattle.identity.specs.Order.{is_above}
use Rattle.glare_core.specs.declared.facts.Why.{Why}
use Rattle.glare_core.specs.declared.facts.Why.TheVariants.{Cancelled, Expired, Unconfirmed, Near, Far, Idle, Glare as ForGlare, Override as ForOverride}
use Rattle.glare_core.specs.declared.facts.Fact.{Fact}
use Rattle.glare_core.specs.declared.facts.Fact.TheVariants.{Started, Born, Opened, Confirmed, Ended}
use Rattle.glare_core.specs.declared.facts.Held.{Held}
use Rattle.glare_core.specs.declared.facts.Held.TheVariants.{Opening, HalfOpen, KeptAsResponder, KeptAsInitiator}
use Rattle.glare_core.specs.declared.facts.Joined.{Joined}
use Rattle.glare_core.specs.declared.answers.StartRefusal.{StartRefusal}
use Rattle.glare_core.specs.declared.answers.StartRefusal.TheVariants.{OwnPrint, Opening as AttemptHeld, Open as SessionHeld, AttemptsSpent, PeersFull as NoRowToStart}
use Rattle.glare_core.specs.declared.answers.Keying.{Keying}
use Rattle.glare_core.specs.declared.answers.Way.{Way}
use Rattle.glare_core.specs.declared.answers.Judged.{Judged}
use Rattle.glare_core.specs.declared.answers.Judged.TheVariants.{Again as IsAgain, Birth as IsBirth}
use Rattle.glare_core.specs.declared.answers.Heard.{Heard}
use Rattle.glare_core.specs.declared.answers.Heard.TheVariants.{Again, Birth}
use Rattle.glare_core.specs.declared.answers.HearRefusal.{HearRefusal}
use Rattle.glare_core.specs.declared.answers.HearRefusal.TheVariants.{Stale, Glare, PeersFull, SessionsFull}
use Rattle.glare_core.specs.Standing.{peer_of, starts_in}
use Rattle.glare_core.specs.Things.{IsAttempt, IsHalfOpen, IsSession, IsKept, near_of}
use Rattle.glare_core.specs.Ledger.{noted, Ledger, held_with, floor_of, knows, row_count}

-- The peer has no row, and there are as many rows as may be.
abbrev pub peers_full : Ledger → List ℕ → Bool
peers_full l peer = not (knows l peer) && (row_count l == l.max_peers)

-- why no attempt starts while this is held
abbrev pub start_held : Option Held → Option StartRefusal
start_held None = None
start_held (Some (Opening n near ni)) = Some (AttemptHeld n)
start_held (Some (HalfOpen j)) = Some (SessionHeld j.near)
start_held (Some (KeptAsResponder j)) = Some (SessionHeld j.near)
start_held (Some (KeptAsInitiator j)) = Some (SessionHeld j.near)

-- why no attempt towards this peer starts, but for want of memory
abbrev pub start_refusal : Ledger → List ℕ → Option StartRefusal
start_refusal l peer =
    first_that_stands (
    where_true (bytes_eq peer l.own) OwnPrint
    ∷ start_held (held_with l peer)
    ∷ where_true (l.started == 2 ^ 64 - 1) AttemptsSpent
    ∷ where_true (peers_full l peer) (NoRowToStart (row_count l))
    ∷ [])

-- the fact of an attempt that starts
abbrev pub started_fact : Ledger → List ℕ → ℕ → List ℕ → Fact
started_fact l peer near ni = Started peer (l.started + 1) near ni

-- The session was born of this very Keying of its peer.
abbrev pub is_born_of : Joined → Keying → Bool
is_born_of j keying = (j.n == keying.n) && bytes_eq j.ni keying.ni && (j.far == keying.far)

-- the near id of the held session with the Keying's peer that was born of this very Keying
abbrev pub again_of : Option Held → Keying → Option ℕ
again_of None keying = None
again_of (Some (Opening n near ni)) keying = None
again_of (Some (HalfOpen j)) keying = where_true (is_born_of j keying) j.near
again_of (Some (KeptAsResponder j)) keying = where_true (is_born_of j keying) j.near
again_of (Some (KeptAsInitiator j)) keying = None

-- that session itself
abbrev pub session_again : Option Held → Keying → Option Joined
session_again None keying = None
session_again (Some (Opening n near ni)) keying = None
session_again (Some (HalfOpen j)) keying = where_true (is_born_of j keying) j
session_again (Some (KeptAsResponder j)) keying = where_true (is_born_of j keying) j
session_again (Some (KeptAsInitiator j)) keying = None

-- Glare, with the number of the held attempt, where the own fingerprint prevails over the peer's
abbrev pub glare_of : List ℕ → List ℕ → Option Held → Option HearRefusal
glare_of own peer None = None
glare_of own peer (Some (Opening n near ni)) = where_true (is_above own peer) (Glare n)
glare_of own peer (Some (HalfOpen j)) = None
glare_of own peer (Some (KeptAsResponder j)) = None
glare_of own peer (Some (KeptAsInitiator j)) = None

-- why nothing is born of a Keying that wasn't heard before, but for want of memory
abbrev pub birth_refusal : Ledger → Keying → Bool → Option HearRefusal
birth_refusal l keying free =
    first_that_stands (
    where_true (nat_le keying.n (floor_of l keying.peer)) (Stale (floor_of l keying.peer))
    ∷ glare_of l.own keying.peer (held_with l keying.peer)
    ∷ where_true (peers_full l keying.peer) (PeersFull (row_count l))
    ∷ where_true (is_none (held_with l keying.peer) && not free) SessionsFull
    ∷ [])

-- Why a Keying is refused, but for want of memory: a Keying whose session is held never is.
abbrev pub hear_refusal : Ledger → Keying → Bool → Option HearRefusal
hear_refusal l keying free = if is_some (again_of (held_with l keying.peer) keying) then None
    else birth_refusal l keying free

-- what is known of the peer of a session that would be born
abbrev pub way_of : Ledger → List ℕ → Way
way_of l peer = record { known = knows l peer; held = held_with l peer }

-- it is the Keying of this session, or one would be born in this way
abbrev pub again_or_way : Option Joined → Way → Judged
again_or_way None way = IsBirth way
again_or_way (Some j) way = IsAgain j

-- what was found, where a Keying isn't refused
abbrev pub unless_refused : Judged → Option HearRefusal → Result Judged HearRefusal
unless_refused found None = Ok found
unless_refused found (Some refusal) = Err refusal

-- what hearing a Keying would be, or why it is refused, but for want of memory
abbrev pub judged : Ledger → Keying → Bool → Result Judged HearRefusal
judged l keying free =
    unless_refused
    (again_or_way (session_again (held_with l keying.peer) keying) (way_of l keying.peer))
    (hear_refusal l keying free)

-- the fact that makes way for a session, where something is held
abbrev pub way_made : List ℕ → Option Held → Option Fact
way_made peer None = None
way_made peer (Some (Opening n near ni)) = Some (Ended peer near ForGlare)
way_made peer (Some (HalfOpen j)) = Some (Ended peer j.near ForOverride)
way_made peer (Some (KeptAsResponder j)) = Some (Ended peer j.near ForOverride)
way_made peer (Some (KeptAsInitiator j)) = Some (Ended peer j.near ForOverride)

-- the fact of the session that is born of a Keying
abbrev pub born_fact : Ledger → Keying → ℕ → List ℕ → Fact
born_fact l keying near nr =
    Born (record {
      peer = keying.peer;
      n = keying.n;
      near = near;
      far = keying.far;
      ni = keying.ni;
      nr = nr;
      k = l.started;
    })

-- Again where there is such a session
abbrev pub again_or : Option ℕ → Heard → Heard
again_or None birth = birth
again_or (Some near) birth = Again near

-- what a Keying gives that isn't refused: Again where its session is held, and else the birth of
-- one
abbrev pub heard : Ledger → Keying → ℕ → List ℕ → Heard
heard l keying near nr =
    again_or (again_of (held_with l keying.peer) keying)
    (Birth (way_made keying.peer (held_with l keying.peer)) (born_fact l keying near nr))

-- the facts that a Keying gave, the newest first
abbrev pub heard_facts : Heard → List Fact
heard_facts (Again near) = []
heard_facts (Birth None born) = born ∷ []
heard_facts (Birth (Some ended) born) = born ∷ ended ∷ []

-- the ledger after what a Keying gave
abbrev pub heard_noted : Ledger → Heard → Ledger
heard_noted l (Again near) = l
heard_noted l (Birth None born) = noted l born
heard_noted l (Birth (Some ended) born) = noted (noted l ended) born

-- The fact is of this peer, with which this is held, and starts no attempt.
pub record IsOf (peer : List ℕ) (held : Option Held) (fact : Fact) : Type 0 where
  pub peer_is : peer_of fact ≡ peer
  pub holds : IsSome held
  pub starts_none : starts_in fact ≡ 0

-- the fact of the held attempt that an Answer opens
abbrev pub opened_fact : Option Held → List ℕ → List ℕ → ℕ → ℕ → Option Fact
opened_fact None peer nr far k = None
opened_fact (Some (Opening n near ni)) peer nr far k =
    Some (Opened (record { peer = peer; n = n; near = near; far = far; ni = ni; nr = nr; k = k }))
opened_fact (Some (HalfOpen j)) peer nr far k = None
opened_fact (Some (KeptAsResponder j)) peer nr far k = None
opened_fact (Some (KeptAsInitiator j)) peer nr far k = None

-- the fact of the held half-open session that is confirmed
abbrev pub confirmed_fact : Option Held → List ℕ → Option Fact
confirmed_fact None peer = None
confirmed_fact (Some (Opening n near ni)) peer = None
confirmed_fact (Some (HalfOpen j)) peer = Some (Confirmed peer j.near)
confirmed_fact (Some (KeptAsResponder j)) peer = None
confirmed_fact (Some (KeptAsInitiator j)) peer = None

-- the fact of the held thing that ends
abbrev pub ended_fact : Option Held → List ℕ → Why → Option Fact
ended_fact None peer why = None
ended_fact (Some thing) peer why = Some (Ended peer (near_of thing) why)

-- A call may end this thing for this cause.
abbrev pub MayEnd : Why → Held → Type 0
MayEnd Cancelled thing = IsAttempt thing
MayEnd Expired thing = IsAttempt thing
MayEnd ForGlare thing = ⊥
MayEnd ForOverride thing = ⊥
MayEnd Unconfirmed thing = IsHalfOpen thing
MayEnd Near thing = IsSession thing
MayEnd Far thing = IsSession thing
MayEnd Idle thing = IsKept thing
