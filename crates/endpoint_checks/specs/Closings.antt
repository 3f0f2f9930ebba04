-- What the table refuses of a Closed.
use Rattle.std.specs.Prelude.{ℕ, ◌≡◌, ◌≢◌, List, [], ◌∷◌, ◌++◌, true, false}
use Rattle.rtmfp_forms.specs.Address.{AddressParts}
use Rattle.rtmfp_chunks.specs.Chunk.{CloseAck}
use Rattle.glare_core.specs.declared.facts.Why.{Why}
use Rattle.glare_core.specs.declared.facts.Why.TheVariants.{Near}
use Rattle.glare_core.specs.declared.facts.Fact.TheVariants.{Born}
use Rattle.glare_core.specs.declared.facts.Joined.{Joined}
use Rattle.endpoint_model.specs.declared.config.Draws.{Draws}
use Rattle.endpoint_model.specs.declared.entry.Entry.{Entry}
use Rattle.endpoint_model.specs.declared.entry.Entry.TheVariants.{Closed}
use Rattle.endpoint_model.specs.Event.{Setup, Call, Open, Cancel, Close, Receive, Tick, Event}
use Rattle.endpoint_laws.specs.Contexts.{Secrets}
use Rattle.endpoint_laws.specs.Past.{Past, is_close, with_begun}
use Rattle.endpoint_laws.specs.Lawful.{ClosedLine}
use Rattle.endpoint_checks.specs.Logs.{answering, doing, says, IsRefused, past_of_end, WasBornIn}
use Rattle.endpoint_checks.specs.Ends.{after_start, after_birth}
use Rattle.endpoint_checks.specs.SessionEnds.{ends}
use Rattle.endpoint_checks.specs.Takes.{Brings, UntakenRefused}

-- the closing of a session is over
abbrev pub over : Joined → List Entry
over j = Closed j.near ∷ []

-- the log of a session that was born, and ended for a cause at a moment, and then of more events
abbrev pub after_end : ℕ → Call → Call → Joined → Why → List Event → List Event
after_end moment c d j why more = doing 0 c (says (Born j)) ∷ doing moment d (ends j why) ∷ more

pub record ClosingsRefused (secrets : Secrets) (setup : Setup) (moment : ℕ) (c d e : Call)
    (from : AddressParts) (sent : List ℕ) (draws : Draws) (j : Joined) (why : Why) : Type 0 where
  -- nothing was closed: there was nothing, an attempt, or a session that is held; or the session
  -- ended for a cause after which no session is closing
  pub of_nothing : (near : ℕ) → IsRefused secrets setup (doing moment e (Closed near ∷ []) ∷ [])
  pub of_attempt : (peer : List ℕ) →
      IsRefused secrets setup (after_start 0 c peer (doing moment e (Closed 5 ∷ [])))
  pub of_held : IsRefused secrets setup (after_birth c j (doing moment e (over j)))
  pub of_dropped : is_close why ≡ false →
      IsRefused secrets setup (after_end 0 c d j why (doing moment e (over j) ∷ []))
  -- another session was closed, or the closing is over already
  pub other_id : (near : ℕ) → near ≢ j.near →
      IsRefused secrets setup (after_end 0 c d j why (doing moment e (Closed near ∷ []) ∷ []))
  pub again : (f : Call) →
      IsRefused secrets setup (after_end 0 c d j why (doing 0 f (over j) ∷ doing moment e (over j)
      ∷ []))
  -- another call than a tick, and than one that takes a datagram
  pub in_open : (towards : List ℕ) (candidates : List AddressParts) →
      IsRefused secrets setup
      (after_end 0 c d j why (doing moment (Open towards candidates draws) (over j) ∷ []))
  pub in_cancel : (m : ℕ) →
      IsRefused secrets setup (after_end 0 c d j why (doing moment (Cancel m) (over j) ∷ []))
  pub in_close : (id : ℕ) →
      IsRefused secrets setup (after_end 0 c d j why (doing moment (Close id) (over j) ∷ []))
  -- a tick 18,999 ms after the session was closed, also where that wasn't at 0
  pub early : IsRefused secrets setup (after_end 0 c d j why (doing 18999 (Tick draws) (over j)
      ∷ []))
  pub early_later : IsRefused secrets setup (after_end 7 c d j why (doing 19006 (Tick draws)
      (over j) ∷ []))
  -- a datagram that the session doesn't take, or that has no answer to a close
  pub untaken : UntakenRefused secrets setup from sent draws j CloseAck
      (λ more answer. IsRefused secrets setup (after_end 0 c (Close j.near) j Near
      (more ++ answering moment (Receive from sent draws) answer (over j) ∷ [])))
  -- a tick at 19,000 ms meets the line, and a datagram with an answer to a close
  pub in_time : is_close why ≡ true → (before : Past) (first : Event) →
      ClosedLine secrets setup 19000 (Tick draws) (past_of_end before first j why) j.near
  pub by_answer : (generation : ℕ) (before : Past) (first : Event) →
      WasBornIn secrets setup generation before first →
      Brings secrets setup generation j sent CloseAck →
      ClosedLine secrets setup moment (Receive from sent draws)
      (with_begun moment (doing moment (Receive from sent draws) (over j))
      (past_of_end before first j Near)) j.near

abbrev pub TheTableRefusesClosings : Type 0
TheTableRefusesClosings = (secrets : Secrets) (setup : Setup) (moment : ℕ) (c d e : Call)
    (from : AddressParts)
    (sent : List ℕ) (draws : Draws) (j : Joined) (why : Why)
    → ClosingsRefused secrets setup moment c d e from sent draws j why
