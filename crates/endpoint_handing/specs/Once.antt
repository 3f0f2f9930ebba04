-- In which contexts the sessions of an end have begun, by its facts. A context is that of a session
-- in one direction, whatever the generation of the group's secret in which it began.
use Rattle.std.specs.Prelude.{ℕ, ◌≡◌, ◌⊎◌, List, [], ◌∷◌, Some}
use Rattle.glare_core.specs.declared.facts.Fact.{Fact}
use Rattle.glare_core.specs.declared.facts.Fact.TheVariants.{Born, Opened}
use Rattle.glare_core.specs.declared.facts.Held.{Held}
use Rattle.glare_core.specs.declared.facts.Held.TheVariants.{Opening, HalfOpen, KeptAsResponder, KeptAsInitiator}
use Rattle.glare_core.specs.Standing.{held}
use Rattle.glare_core.specs.Account.{AreLawful}
use Rattle.glare_core.specs.Told.{AllDifferent}
use Rattle.session_core.specs.declared.stage.Role.TheVariants.{Initiator, Responder}
use Rattle.endpoint_laws.specs.Lawful.{nonces_of}
use Rattle.flow_history.specs.Deeds.{Context, back}
use Rattle.endpoint_handing.specs.Told.{sends_in}

-- The fact begins a session that sends in this context.
abbrev pub SendsIn : List ℕ → Context → Fact → Type 0
SendsIn own c (Born j) = sends_in Responder own j ≡ c
SendsIn own c (Opened j) = sends_in Initiator own j ≡ c
SendsIn own c fact = ⊥

-- The fact begins a session that takes in this context.
abbrev pub TakesIn : List ℕ → Context → Fact → Type 0
TakesIn own c (Born j) = back (sends_in Responder own j) ≡ c
TakesIn own c (Opened j) = back (sends_in Initiator own j) ≡ c
TakesIn own c fact = ⊥

abbrev pub HasBegun : (Fact → Type 0) → List Fact → Type 0
HasBegun begins [] = ⊥
HasBegun begins (fact ∷ earlier) = begins fact ⊎ HasBegun begins earlier

-- ---- one end

-- Of facts that are lawful, and in which all nonces are different, the newest begins a session in
-- contexts in which no session of this end began before.
abbrev pub EachBeginsOnce : Type 0
EachBeginsOnce = (own : List ℕ) (from : ℕ) (fact : Fact) (earlier : List Fact) (c : Context) →
    AreLawful own from (fact ∷ earlier) → AllDifferent (nonces_of (fact ∷ earlier)) →
    (SendsIn own c fact → HasBegun (SendsIn own c) earlier → ⊥)
    × (TakesIn own c fact → HasBegun (TakesIn own c) earlier → ⊥)

-- What is held is a session that sends in this context.
abbrev pub HeldSends : List ℕ → Context → Held → Type 0
HeldSends own c (Opening n near ni) = ⊥
HeldSends own c (HalfOpen j) = sends_in Responder own j ≡ c
HeldSends own c (KeptAsResponder j) = sends_in Responder own j ≡ c
HeldSends own c (KeptAsInitiator j) = sends_in Initiator own j ≡ c

-- A session that is held has begun, in the context in which it sends and in the one back, in which
-- it takes.
abbrev pub WhatIsHeldHasBegun : Type 0
WhatIsHeldHasBegun = (own peer : List ℕ) (facts : List Fact) (thing : Held) (c : Context) →
    held peer facts ≡ Some thing → HeldSends own c thing → HasBegun (SendsIn own c) facts

abbrev pub WhatIsHeldTakes : Type 0
WhatIsHeldTakes = (own peer : List ℕ) (facts : List Fact) (thing : Held) (c : Context) →
    held peer facts ≡ Some thing → HeldSends own c thing → HasBegun (TakesIn own (back c)) facts

-- ---- all ends

-- A context names the end that sends in it, and the end that takes.
abbrev pub EachContextNamesItsSender : Type 0
EachContextNamesItsSender = (own other : List ℕ) (c : Context) (fact fact' : Fact) →
    SendsIn own c fact → SendsIn other c fact' → own ≡ other

abbrev pub EachContextNamesItsTaker : Type 0
EachContextNamesItsTaker = (own other : List ℕ) (c : Context) (fact fact' : Fact) →
    TakesIn own c fact → TakesIn other c fact' → own ≡ other

-- No other end that has stated something has the fingerprint of this one.
abbrev pub IsNamedAlone : (ℕ → List ℕ) → (ℕ → List Fact) → ℕ → Type 0
IsNamedAlone own facts who = (other : ℕ) → (facts other ≡ [] → ⊥) → own other ≡ own who →
    other ≡ who

-- Of all ends, by their fingerprints and by their facts so far: the next fact of one begins a
-- session in contexts in which no session of any end began before.
abbrev pub EachContextIsNew : Type 0
EachContextIsNew = (own : ℕ → List ℕ) (facts : ℕ → List Fact) (who from : ℕ) (fact : Fact)
    (c : Context) → IsNamedAlone own facts who → AreLawful (own who) from (fact ∷ facts who) →
    AllDifferent (nonces_of (fact ∷ facts who)) → (other : ℕ) →
    (SendsIn (own who) c fact → HasBegun (SendsIn (own other) c) (facts other) → ⊥)
    × (TakesIn (own who) c fact → HasBegun (TakesIn (own other) c) (facts other) → ⊥)
