-- What is found of the datagram of a call, by what is found of a datagram.
use Rattle.std.proofs.Common.{ℕ, ◌≡◌, List, Option, Some, None, Result, Ok, Err, refl, sym, subst}
use Rattle.std.specs.Prelude.{IfOk}
use Rattle.endpoint_model.specs.Event.{Setup, ReceiveCall, receive_in}
use Rattle.endpoint_laws.specs.Past.{Past, datagram_of}
use Rattle.endpoint_laws.specs.Contexts.{Secrets}
use Rattle.log_values.specs.declared.log.LoggedCall.{LoggedCall}
use Rattle.log_values.specs.declared.log.LoggedCall.TheVariants.{Open, Seek, Cancel, Unseek, Close, Learn, Advance, Receive, Tick, Other}
use Rattle.log_values.specs.Events.{call_of}
use Rattle.log_packets.proofs.Opens.{one_of}
use Rattle.log_arrivals.specs.declared.arrived.Arrived.{Arrived}
use Rattle.log_arrivals.specs.Arrived.{IsArrived}
use Rattle.log_arrivals.specs.Calls.{IsArrivedIn, given_in}

pub given_is : (nonce : List ℕ) (call : LoggedCall) → datagram_of (receive_in (call_of nonce call)) ≡ given_in call
given_is nonce (Open peer tag) = refl
given_is nonce (Seek name tag) = refl
given_is nonce (Cancel n) = refl
given_is nonce (Unseek near) = refl
given_is nonce (Close near) = refl
given_is nonce (Learn secret) = refl
given_is nonce Advance = refl
given_is nonce (Receive from datagram) = refl
given_is nonce Tick = refl
given_is nonce Other = refl

module _ (secrets : Secrets) (setup : Setup) (past : Past) where
  arrives : (o : Option ReceiveCall) (d plain : List ℕ) (a : Arrived) → datagram_of o ≡ Some d → IsArrived secrets setup past d plain a → IsArrivedIn secrets setup past o plain a
  arrives None d plain a e is = absurd (let clash : None ≡ Some d = e in cc)
  arrives (Some r) d plain a e is = subst (λ (x : List ℕ). IsArrived secrets setup past x plain a) (sym (one_of r.datagram d e)) is

  pub arrives_in : {E : Type 0} (o : Option ReceiveCall) (d plain : List ℕ) (found : Result Arrived E) → datagram_of o ≡ Some d → IfOk found (λ a. IsArrived secrets setup past d plain a) → IfOk found (IsArrivedIn secrets setup past o plain)
  arrives_in o d plain (Ok a) e is = arrives o d plain a e is
  arrives_in o d plain (Err why) e is = tt
