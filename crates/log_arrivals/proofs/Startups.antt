-- In which generation the datagram of an event opened outside of sessions, by where it opened.
use Rattle.std.proofs.Common.{ℕ, ◌≡◌, List, Option, Some, None, ap, subst}
use Rattle.endpoint_model.specs.Event.{Setup, ReceiveCall}
use Rattle.endpoint_laws.specs.Past.{Past, before_event, last_call, receive_of}
use Rattle.endpoint_laws.specs.Contexts.{Secrets, CallOpensIn}
use Rattle.log_arrivals.specs.declared.arrival.Arrival.{Arrival}
use Rattle.log_arrivals.specs.declared.arrival.Arrival.TheVariants.{Nowhere, Startup, Session}
use Rattle.log_arrivals.specs.Arrivals.{ArrivesIn}
use Rattle.log_arrivals.specs.Startup.{TellsStartup, generation_in}

started : (a : Arrival) (generation : ℕ) → generation_in a ≡ Some generation → a ≡ Startup generation
started Nowhere generation e = absurd (let clash : None ≡ Some generation = e in cc)
started (Startup g) generation e = (let same : Some g ≡ Some generation = e in cc)
started Session generation e = absurd (let clash : None ≡ Some generation = e in cc)

not_at_all : (a : Arrival) (generation : ℕ) → a ≡ Nowhere → generation_in a ≡ Some generation → ⊥
not_at_all a generation nowhere e = let clash : generation_in Nowhere ≡ Some generation = subst (λ (b : Arrival). generation_in b ≡ Some generation) nowhere e in absurd (let never : None ≡ Some generation = clash in cc)

module _ (secrets : Secrets) (setup : Setup) (before : Past) (plain : List ℕ) (a : Arrival) where
  of_call : (o : Option ReceiveCall) → ArrivesIn secrets setup before o plain a → (generation : ℕ) → generation_in a ≡ Some generation → CallOpensIn secrets setup before o generation
  of_call None is generation e = not_at_all a generation is e
  of_call (Some r) is generation e = let s = is.startup generation (started a generation e) in record { contexts = s.contexts; named = s.named; plain = plain; opens = s.opens }

  only_of_call : (o : Option ReceiveCall) → ArrivesIn secrets setup before o plain a → (generation : ℕ) → CallOpensIn secrets setup before o generation → generation_in a ≡ Some generation
  only_of_call None is generation o = absurd o
  only_of_call (Some r) is generation o = ap generation_in (is.starts generation o.plain (record { contexts = o.contexts; named = o.named; opens = o.opens })).0

pub tells_startup : (secrets : Secrets) (setup : Setup) (past : Past) (plain : List ℕ) (a : Arrival) → ArrivesIn secrets setup (before_event past) (receive_of (last_call past)) plain a → TellsStartup secrets setup past (generation_in a)
tells_startup secrets setup past plain a is = record {
  opened = of_call secrets setup (before_event past) plain a (receive_of (last_call past)) is;
  only = only_of_call secrets setup (before_event past) plain a (receive_of (last_call past)) is;
}
