-- The five parts of agreement, each at one moment: of the steps until then, the newest first.
use Rattle.std.specs.Prelude.{ℕ, List, ◌≡◌, ◌⊎◌, Some}
use Rattle.glare_core.specs.declared.facts.Why.{Why}
use Rattle.glare_core.specs.declared.facts.Why.TheVariants.{Glare, Override}
use Rattle.glare_core.specs.declared.facts.Fact.TheVariants.{Started, Born, Opened, Ended}
use Rattle.glare_core.specs.declared.facts.Held.TheVariants.{Opening, HalfOpen, KeptAsResponder, KeptAsInitiator}
use Rattle.glare_core.specs.declared.facts.Joined.{Joined}
use Rattle.identity.specs.Order.{Prevails}
use Rattle.glare_core.specs.Tells.{as_initiator, as_responder}
use Rattle.glare_core.specs.Steps.{Did, Step, holding, IsTail, Happened}
use Rattle.glare_core.specs.Told.{Event, steps, IsLawful, IsHonest, IsFresh}

-- The end keeps this session with the peer.
abbrev pub Keeps : List ℕ → List ℕ → Joined → List Step → Type 0
Keeps who peer s now = (holding who peer now ≡ Some (KeptAsInitiator s)) ⊎
    (holding who peer now ≡ Some (KeptAsResponder s))

-- The same nonces and crossed identifiers.
pub record AreOne (s t : Joined) : Type 0 where
  pub ni : s.ni ≡ t.ni
  pub nr : s.nr ≡ t.nr
  pub near : s.near ≡ t.far
  pub far : s.far ≡ t.near

-- Two ends that keep sessions with each other keep the same one.
abbrev pub KeepTheSame : List Step → Type 0
KeepTheSame now = (x y : List ℕ) (s t : Joined) → Keeps x y s now → Keeps y x t now → AreOne s t

-- Of an Opened: its one Born, which came before.
pub record HasOneBirth (now before : List Step) (x : List ℕ) (s : Joined) (generation : ℕ)
    : Type 0 where
  pub t : Joined
  pub early : List Step
  pub born : Happened s.peer (Did (Born t) generation) early before
  pub n : t.n ≡ s.n
  pub k : t.k ≡ s.k
  -- the six values are the same, so the identifiers are crossed; with the same generation they give
  -- the same keys
  pub values : as_responder s.peer t ≡ as_initiator x s
  pub only : (t' : Joined) (g : ℕ) (early' : List Step) →
      Happened s.peer (Did (Born t') g) early' now → t'.n ≡ s.n → t'.ni ≡ s.ni → (t' ≡ t) ×
      (early' ≡ early)

-- Each Opened of x towards a peer has exactly one Born there with its n and ni.
abbrev pub EachOpenedHasOneBirth : List Step → Type 0
EachOpenedHasOneBirth now =
    (x : List ℕ) (s : Joined) (generation : ℕ) (before : List Step) →
    Happened x (Did (Opened s) generation) before now → HasOneBirth now before x s generation

-- No Started has two Borns: two Borns of one Started, at whatever ends, are one step.
abbrev pub NoStartedHasTwoBirths : List Step → Type 0
NoStartedHasTwoBirths now =
    (x peer : List ℕ) (n near : ℕ) (ni : List ℕ) (g : ℕ) (before : List Step) →
    Happened x (Did (Started peer n near ni) g) before now →
    (y y' : List ℕ) (t t' : Joined) (h h' : ℕ) (early early' : List Step) →
    Happened y (Did (Born t) h) early now → t.peer ≡ x → t.n ≡ n → t.ni ≡ ni →
    Happened y' (Did (Born t') h') early' now → t'.peer ≡ x → t'.n ≡ n → t'.ni ≡ ni →
    (y ≡ y') × (t ≡ t') × (early ≡ early')

-- an attempt, as its end has it
pub record Attempt : Type 0 where
  pub n : ℕ
  pub near : ℕ
  pub ni : List ℕ

-- The end holds this attempt towards the peer as opening.
abbrev pub Attempts : List ℕ → List ℕ → Attempt → List Step → Type 0
Attempts who peer a now = holding who peer now ≡ Some (Opening a.n a.near a.ni)

-- The attempt of x wasn't born at y.
abbrev pub IsNotBorn : List ℕ → List ℕ → Attempt → List Step → Type 0
IsNotBorn x y a now = (t : Joined) (g : ℕ) (early : List Step) →
    Happened y (Did (Born t) g) early now → t.peer ≡ x → t.n ≡ a.n → t.ni ≡ a.ni → ⊥

-- The attempts a of x and b of y are crossed at this moment: each end holds its own, and neither is
-- born at the other.
pub record AreCrossed (x y : List ℕ) (a b : Attempt) (now : List Step) : Type 0 where
  pub attempts_x : Attempts x y a now
  pub attempts_y : Attempts y x b now
  pub not_born_y : IsNotBorn x y a now
  pub not_born_x : IsNotBorn y x b now

-- This step opened the attempt of x towards y.
abbrev pub Opens : List ℕ → List ℕ → Attempt → List Step → List Step → Type 0
Opens x y a before now = (s : Joined) × (g : ℕ) × Happened x (Did (Opened s) g) before now ×
    (s.peer ≡ y) × (s.n ≡ a.n)

-- The attempt b of y towards x was ended.
abbrev pub IsOver : List ℕ → List ℕ → Attempt → List Step → Type 0
IsOver y x b now = (near : ℕ) × (why : Why) × (g : ℕ) × (early : List Step) ×
    Happened y (Did (Ended x near why) g) early now × Attempts y x b early

-- Of two attempts that were crossed at some moment, where one opens, the other was ended before.
abbrev pub CrossedIsOver : List Step → Type 0
CrossedIsOver now =
    (x y : List ℕ) (a b : Attempt) (then before : List Step) → IsTail then now →
    AreCrossed x y a b then → Opens x y a before now → IsOver y x b before

-- Of two attempts that were crossed at some moment at most one opens.
abbrev pub OneOpens : List Step → Type 0
OneOpens now =
    (x y : List ℕ) (a b : Attempt) (then before before' : List Step) → IsTail then now →
    AreCrossed x y a b then → Opens x y a before now → Opens y x b before' now → ⊥

-- No attempt of the end that prevails is ended for the cause Glare.
abbrev pub PrevailingIsSpared : List Step → Type 0
PrevailingIsSpared now =
    (x y : List ℕ) (near g : ℕ) (before : List Step) →
    Happened x (Did (Ended y near Glare) g) before now → Prevails x y → ⊥

-- The end y ended its side of the session s that x has with it.
pub record PeerEnded (now : List Step) (x y : List ℕ) (s : Joined) : Type 0 where
  pub near : ℕ
  pub why : Why
  pub g : ℕ
  pub t : Joined
  pub early : List Step
  pub ended : Happened y (Did (Ended x near why) g) early now
  pub session : (holding y x early ≡ Some (HalfOpen t)) ⊎ Keeps y x t early
  pub one : AreOne s t

-- A kept session is ended for the cause Override only after its peer has ended it.
abbrev pub OverrideIsLate : List Step → Type 0
OverrideIsLate now =
    (x y : List ℕ) (near g : ℕ) (s : Joined) (before : List Step) →
    Happened x (Did (Ended y near Override) g) before now → Keeps x y s before →
    PeerEnded before x y s

-- The statement holds of the history at each moment, for every told history that is lawful, honest
-- and fresh.
abbrev pub AtEachMoment : (List Step → Type 0) → Type 0
AtEachMoment P = (history : List Event) → IsLawful history → IsHonest history → IsFresh history →
    (now : List Step) → IsTail now (steps history) → P now
