-- When what is kept of an end is that of its log.
use Rattle.std.specs.Prelude.{ℕ, ◌≡◌, Bool, false}
use Rattle.endpoint_model.specs.Event.{Setup, Event, receive_in}
use Rattle.endpoint_laws.specs.Past.{Past, facts_of, is_in_use, with_begun}
use Rattle.endpoint_laws.specs.Contexts.{Secrets}
use Rattle.endpoint_laws.specs.Lawful.{nonces_of}
use Rattle.log_digest.specs.Digest.{IsDigestOf}
use Rattle.log_digest.specs.Generations.{AreGenerationsOf}
use Rattle.log_digest.specs.Nonces.{AreNonces}
use Rattle.log_digest.specs.Numbers.{AreNumbersOf}
use Rattle.log_contexts.specs.Contexts.{AreContextsOf}
use Rattle.log_outs.specs.Sessions.{ClosesOwn}
use Rattle.log_facts.specs.Coming.{IsTaken}
use Rattle.log_verdict.specs.Checks.{kept_with}
use Rattle.log_events.specs.Underway.{IsUnderway}
use Rattle.log_events.specs.declared.watch.EndWatch.{EndWatch}

-- It is what is kept of an end that was given this and did this, whose last moment is this.
pub record IsWatchOf (secrets : Secrets) (setup : Setup) (last : ℕ) (past : Past)
    (w : EndWatch) : Type 0 where
  pub digest : IsDigestOf last past w.digest
  pub generations : AreGenerationsOf setup past w.generations
  pub numbers : AreNumbersOf past w.numbers
  pub nonces : AreNonces (nonces_of (facts_of past)) w.nonces
  pub contexts : AreContextsOf secrets setup past w.contexts
  pub closing : ClosesOwn past
  pub zero : is_in_use 0 past ≡ false
  pub kept_is : w.kept ≡ kept_with (facts_of past)

-- The event began at this moment, and what is kept is that; and the answer tells at each of its
-- entries whether the session under its datagram's session ID takes it.
pub record HasBegun (secrets : Secrets) (setup : Setup) (now : ℕ) (e : Event) (before : Past)
    (w : EndWatch) (took : Bool) : Type 0 where
  pub watch : IsWatchOf secrets setup now (with_begun now e before) w
  pub underway : IsUnderway secrets setup now e before (with_begun now e before)
  pub takes : (past : Past) → IsUnderway secrets setup now e before past →
      IsTaken secrets setup past (receive_in e.call) took
