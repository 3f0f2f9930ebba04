-- What it is for logs to be lawful, honest and fresh together.
use Rattle.std.specs.Prelude.{ℕ, ◌≡◌, ◌<◌, List, length}
use Rattle.glare_core.specs.Told.{AllDifferent}
use Rattle.endpoint_model.specs.Event.{Setup, own_of}
use Rattle.endpoint_laws.specs.Contexts.{Knows}
use Rattle.endpoint_laws.specs.History.{History, past_at, AreLawful, IsHonest, nonces_in}
use Rattle.log_verdict.specs.Told.{end_of, secrets_in}

-- The history of these ends is lawful, honest and fresh. Its secrets are one map: each end was given
-- first, and learnt, what counts. What is asked of fingerprints and of secrets is asked of each
-- end, also of one without an event.
pub record IsAudited (setups : List Setup) (history : History) : Type 0 where
  pub one_map : (who : ℕ) → who < length setups →
      Knows (secrets_in setups history) (end_of setups who) (past_at who history)
  pub lawful : AreLawful (secrets_in setups history) (end_of setups) history
  pub honest : IsHonest (secrets_in setups history) (end_of setups) history
  pub nonces : AllDifferent (nonces_in history)
  pub prints : (a b : ℕ) → a < length setups → b < length setups →
      own_of (end_of setups a) ≡ own_of (end_of setups b) → a ≡ b
