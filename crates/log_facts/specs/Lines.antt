-- What whole lines of facts ask, beside what stands before.
use Rattle.std.specs.Prelude.{ℕ, List, ◌≡◌, Bool, true, false, Option, Some}
use Rattle.glare_core.specs.declared.facts.Why.{Why}
use Rattle.glare_core.specs.declared.facts.Why.TheVariants.{Far, Idle}
use Rattle.glare_core.specs.declared.facts.Fact.{Fact}
use Rattle.glare_core.specs.declared.facts.Fact.TheVariants.{Started, Born, Opened, Confirmed, Ended}
use Rattle.glare_core.specs.declared.facts.Held.{Held}
use Rattle.glare_core.specs.declared.facts.Held.TheVariants.{HalfOpen}
use Rattle.glare_core.specs.declared.facts.Joined.{Joined}
use Rattle.glare_core.specs.Standing.{held, count}
use Rattle.glare_core.specs.Stands.{Stands}
use Rattle.glare_core.specs.Things.{IsSession, near_of}
use Rattle.endpoint_model.specs.declared.entry.Entry.{Entry}
use Rattle.endpoint_model.specs.Event.{Setup, Call, own_of}
use Rattle.endpoint_laws.specs.Past.{Past, facts_of}
use Rattle.endpoint_laws.specs.Contexts.{Secrets}
use Rattle.endpoint_laws.specs.Lawful.{BornLine, FactLine, IsCounted}
use Rattle.log_lines.specs.Lines.{IsLastTaken}
use Rattle.log_packets.specs.Asked.{Tells}
use Rattle.log_arrivals.specs.declared.arrival.Arrival.{Arrival}
use Rattle.log_arrivals.specs.declared.arrival.Arrival.TheVariants.{Session as InSession}
use Rattle.log_facts.specs.Coming.{StoodAlone}

abbrev pub is_far : Why → Bool
is_far Far = true
is_far why = false

abbrev pub is_idle : Why → Bool
is_idle Idle = true
is_idle why = false

-- What a caller found for a fact: of a Born, whether it meets its line; of a Confirmed, that the
-- half-open session stood there before the event; of an Ended for want of datagrams, when the
-- session took the last one.
abbrev pub IsFoundFor : Secrets → Setup → ℕ → Call → Past → Arrival → Bool → Option ℕ → Fact →
    Type 0
IsFoundFor secrets setup now call past arrival born last (Started peer n near ni) = Unit {0}
IsFoundFor secrets setup now call past arrival born last (Born j) =
    Tells (BornLine secrets setup now call past j) born
IsFoundFor secrets setup now call past arrival born last (Opened j) = Unit {0}
IsFoundFor secrets setup now call past arrival born last (Confirmed peer near) =
    (j : Joined) → arrival ≡ InSession → held peer (facts_of past) ≡ Some (HalfOpen j) →
    StoodAlone past j.near (HalfOpen j)
IsFoundFor secrets setup now call past arrival born last (Ended peer near why) =
    why ≡ Idle → (thing : Held) → held peer (facts_of past) ≡ Some thing → near_of thing ≡ near →
    IsSession thing → IsLastTaken secrets setup past thing near last

-- The line of a fact, whole.
abbrev pub WholeLine : Secrets → Setup → ℕ → Call → Past → List Entry → Fact → Type 0
WholeLine secrets setup now call past rest fact =
    Stands (own_of setup) (count (facts_of past)) (facts_of past) fact ×
    FactLine secrets setup now call past rest fact × IsCounted fact
