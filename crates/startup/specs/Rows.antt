-- What an end keeps, as its state.
use Rattle.std.specs.Prelude.{ℕ, List, ◌≡◌}
use Rattle.sha2.specs.Sha256.{sha256}
use Rattle.glare_core.specs.Ledger.{Ledger}
use Rattle.startup.specs.State.{Attempts, KeptKeyings, StartupState, IsSound}

abbrev pub state_of : List ℕ → List ℕ → Ledger → Attempts → KeptKeyings → StartupState
state_of cert cookie_secret ledger attempts kept =
    record {
      cert = cert;
      cookie_secret = cookie_secret;
      ledger = ledger;
      attempts = attempts;
      kept = kept;
    }

-- What stands beside the attempts is what it should be.
pub record IsStartup (cert print cookie_secret : List ℕ) (ledger : Ledger) (attempts : Attempts)
    (kept : KeptKeyings) : Type 0 where
  pub print_is : print ≡ sha256 cert
  pub sound : IsSound (state_of cert cookie_secret ledger attempts kept)
