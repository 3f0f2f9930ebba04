-- What a fact of an end asks of what is held and counted: of the facts before it, the newest first.
use Rattle.std.specs.Prelude.{ℕ, List, ◌≡◌, ◌≢◌, ◌<◌, ◌+◌, ◌⊎◌, Some, None}
use Rattle.glare_core.specs.declared.facts.Why.{Why}
use Rattle.glare_core.specs.declared.facts.Why.TheVariants.{Cancelled, Expired, Glare, Override, Unconfirmed, Near, Far, Idle}
use Rattle.glare_core.specs.declared.facts.Fact.{Fact}
use Rattle.glare_core.specs.declared.facts.Fact.TheVariants.{Started, Born, Opened, Confirmed, Ended}
use Rattle.glare_core.specs.declared.facts.Held.{Held}
use Rattle.glare_core.specs.declared.facts.Held.TheVariants.{Opening, HalfOpen}
use Rattle.glare_core.specs.declared.facts.Joined.{Joined}
use Rattle.identity.specs.Order.{Prevails}
use Rattle.glare_core.specs.Standing.{held, seen}
use Rattle.glare_core.specs.Things.{IsAttempt, IsHalfOpen, IsKept, IsSession, near_of}

-- At this end, and with this peer, the cause may end this thing.
abbrev pub Ends : List ℕ → List ℕ → Why → Held → Type 0
Ends own peer Cancelled h = IsAttempt h
Ends own peer Expired h = IsAttempt h
Ends own peer Glare h = IsAttempt h × Prevails peer own
Ends own peer Override h = IsSession h
Ends own peer Unconfirmed h = IsHalfOpen h
Ends own peer Near h = IsSession h
Ends own peer Far h = IsSession h
Ends own peer Idle h = IsKept h

pub record StartedStands (own : List ℕ) (attempts : ℕ) (before : List Fact) (peer : List ℕ) (n : ℕ)
    : Type 0 where
  pub other : peer ≢ own
  pub free : held peer before ≡ None
  pub next : n ≡ attempts + 1

pub record BornStands (attempts : ℕ) (before : List Fact) (j : Joined) : Type 0 where
  pub above : seen j.peer before < j.n
  pub free : held j.peer before ≡ None
  pub counted : j.k ≡ attempts

pub record ConfirmedStands (before : List Fact) (peer : List ℕ) (near : ℕ) : Type 0 where
  pub j : Joined
  pub session : held peer before ≡ Some (HalfOpen j)
  pub id : near ≡ j.near

pub record EndedStands (own : List ℕ) (before : List Fact) (peer : List ℕ) (near : ℕ) (why : Why)
    : Type 0 where
  pub h : Held
  pub thing : held peer before ≡ Some h
  pub id : near ≡ near_of h
  pub ends : Ends own peer why h

-- What a fact of an end asks of its facts before, the newest first, where it has started so many
-- attempts.
abbrev pub Stands : List ℕ → ℕ → List Fact → Fact → Type 0
Stands own attempts before (Started peer n near ni) = StartedStands own attempts before peer n
Stands own attempts before (Born j) = BornStands attempts before j
Stands own attempts before (Opened j) = held j.peer before ≡ Some (Opening j.n j.near j.ni)
Stands own attempts before (Confirmed peer near) = ConfirmedStands before peer near
Stands own attempts before (Ended peer near why) = EndedStands own before peer near why

-- The causes of an Ended that makes way for a Born.
abbrev pub IsForBorn : Why → Type 0
IsForBorn why = (why ≡ Glare) ⊎ (why ≡ Override)

-- The fact ends a thing so that a session with its peer is born.
abbrev pub MakesWay : Fact → Type 0
MakesWay (Started peer n near ni) = ⊥
MakesWay (Born j) = ⊥
MakesWay (Opened j) = ⊥
MakesWay (Confirmed peer near) = ⊥
MakesWay (Ended peer near why) = IsForBorn why

-- The fact is a Born of this peer.
abbrev pub IsBornOf : List ℕ → Fact → Type 0
IsBornOf peer (Started peer' n near ni) = ⊥
IsBornOf peer (Born j) = j.peer ≡ peer
IsBornOf peer (Opened j) = ⊥
IsBornOf peer (Confirmed peer' near) = ⊥
IsBornOf peer (Ended peer' near why) = ⊥
