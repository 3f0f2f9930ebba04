-- The table of told histories: what each fact of an end, and each tell that it sends, asks of what
-- the end was told and did before.
use Rattle.std.specs.Prelude.{ℕ, List, [], ◌∷◌, ◌≡◌, ◌⊎◌, Some, true, false}
use Rattle.glare_core.specs.declared.facts.Why.{Why}
use Rattle.glare_core.specs.declared.facts.Why.TheVariants.{Near, Far}
use Rattle.glare_core.specs.declared.facts.Fact.{Fact}
use Rattle.glare_core.specs.declared.facts.Fact.TheVariants.{Started, Born, Opened, Confirmed, Ended}
use Rattle.glare_core.specs.declared.facts.Held.{Held}
use Rattle.glare_core.specs.declared.facts.Held.TheVariants.{Opening, HalfOpen, KeptAsResponder, KeptAsInitiator}
use Rattle.glare_core.specs.declared.facts.Joined.{Joined}
use Rattle.glare_core.specs.Standing.{peer_of, held, count}
use Rattle.glare_core.specs.Tells.{Tell, Keying, Answer, Under, Values, as_initiator, as_responder}
use Rattle.glare_core.specs.Steps.{Item, Told, Did, Sends, Among, facts, IsTail}
use Rattle.glare_core.specs.Stands.{Stands, MakesWay, IsBornOf}

-- A Confirmed asks for a datagram of the half-open session, towards this end, with the generation
-- of the Keying that bore it.
pub record ConfirmedHeard (own : List ℕ) (log : List Item) (peer : List ℕ) : Type 0 where
  pub j : Joined
  pub session : held peer (facts log) ≡ Some (HalfOpen j)
  pub generation : ℕ
  pub born : Among (Did (Born j) generation) log
  pub told : Among (Told (Under (as_responder own j) true generation)) log

-- What a fact of an end asks to have been told: by the end's log, which is what it was told and did
-- before, the newest first.
abbrev pub HasHeard : List ℕ → List Item → Fact → ℕ → Type 0
HasHeard own log (Started peer n near ni) generation = Unit {0}
HasHeard own log (Born j) generation = Among (Told (Keying j.peer own j.n j.ni j.far generation))
    log
HasHeard own log (Opened j) generation = Among
    (Told (Answer j.near j.peer j.far j.nr j.k j.ni generation)) log
HasHeard own log (Confirmed peer near) generation = ConfirmedHeard own log peer
HasHeard own log (Ended peer near why) generation = Unit {0}

-- the line of a fact
pub record FactFits (own : List ℕ) (log : List Item) (fact : Fact) (generation : ℕ) : Type 0 where
  pub stands : Stands own (count (facts log)) (facts log) fact
  pub heard : HasHeard own log fact generation

-- The values of a Keying are those of an attempt that is held as opening.
pub record KeyingFits (own : List ℕ) (log : List Item) (initiator responder : List ℕ) (n : ℕ)
    (ni : List ℕ) (near_i : ℕ) : Type 0 where
  pub from : initiator ≡ own
  pub attempt : held responder (facts log) ≡ Some (Opening n near_i ni)

-- The end holds the session of this Born.
abbrev pub HoldsBorn : List Item → Joined → Type 0
HoldsBorn log j = (held j.peer (facts log) ≡ Some (HalfOpen j)) ⊎
    (held j.peer (facts log) ≡ Some (KeptAsResponder j))

-- The values of an Answer are those of a held Born, its generation is that of the Keying which bore
-- it.
pub record AnswerFits (own : List ℕ) (log : List Item) (near_i : ℕ) (responder : List ℕ)
    (near_r : ℕ) (nr : List ℕ) (k : ℕ) (ni : List ℕ) (generation : ℕ) : Type 0 where
  pub from : responder ≡ own
  pub j : Joined
  pub session : HoldsBorn log j
  pub born : Among (Did (Born j) generation) log
  pub near_i_is : near_i ≡ j.far
  pub near_r_is : near_r ≡ j.near
  pub nr_is : nr ≡ j.nr
  pub k_is : k ≡ j.k
  pub ni_is : ni ≡ j.ni

-- The end ended this thing for the cause Near or Far.
pub record WasClosed (log : List Item) (peer : List ℕ) (h : Held) : Type 0 where
  pub early : List Item
  pub near : ℕ
  pub why : Why
  pub generation : ℕ
  pub ended : IsTail (Did (Ended peer near why) generation ∷ early) log
  pub thing : held peer (facts early) ≡ Some h
  pub cause : (why ≡ Near) ⊎ (why ≡ Far)

-- The end holds this thing, or ended it for the cause Near or Far.
abbrev pub HoldsOrClosed : List Item → List ℕ → Held → Type 0
HoldsOrClosed log peer h = (held peer (facts log) ≡ Some h) ⊎ WasClosed log peer h

-- An Under goes away from this end. Its session is held, or was closed by one of its ends, and its
-- generation is that of the Answer that opened it, or of the Keying that bore it.
pub record UnderFromInitiator (own : List ℕ) (log : List Item) (values : Values) (generation : ℕ)
    : Type 0 where
  pub j : Joined
  pub session : HoldsOrClosed log j.peer (KeptAsInitiator j)
  pub opened : Among (Did (Opened j) generation) log
  pub values_are : values ≡ as_initiator own j

pub record UnderFromResponder (own : List ℕ) (log : List Item) (values : Values) (generation : ℕ)
    : Type 0 where
  pub j : Joined
  pub session : HoldsOrClosed log j.peer (HalfOpen j) ⊎ HoldsOrClosed log j.peer (KeptAsResponder j)
  pub born : Among (Did (Born j) generation) log
  pub values_are : values ≡ as_responder own j

-- the line of a tell that is sent
abbrev pub SentFits : List ℕ → List Item → Tell → Type 0
SentFits own log (Keying initiator responder n ni near_i generation) =
    KeyingFits own log initiator responder n ni near_i
SentFits own log (Answer near_i responder near_r nr k ni generation) =
    AnswerFits own log near_i responder near_r nr k ni generation
SentFits own log (Under values true generation) = UnderFromInitiator own log values generation
SentFits own log (Under values false generation) = UnderFromResponder own log values generation

-- A fact or a sent tell meets its line, judged by its end's log before it.
abbrev pub Meets : List ℕ → List Item → Item → Type 0
Meets own log (Told t) = ⊥
Meets own log (Did fact generation) = FactFits own log fact generation
Meets own log (Sends t) = SentFits own log t

-- In the rest of the event there is a next fact, and it is a Born of this peer.
abbrev pub NextBorn : List ℕ → List Item → Type 0
NextBorn peer [] = ⊥
NextBorn peer (Told t ∷ rest) = NextBorn peer rest
NextBorn peer (Sends t ∷ rest) = NextBorn peer rest
NextBorn peer (Did fact generation ∷ rest) = IsBornOf peer fact

-- After an Ended for Glare or Override the next fact of the same event is a Born of that peer.
abbrev pub Followed : Item → List Item → Type 0
Followed (Told t) rest = Unit {0}
Followed (Sends t) rest = Unit {0}
Followed (Did fact generation) rest = MakesWay fact → NextBorn (peer_of fact) rest
