-- How an end is kept, and beside the state what follows from it.
use Rattle.std.specs.Prelude.{ℕ, List, ◌≡◌, ◌≤◌}
use Rattle.startup.specs.State.{StartupState}
use Rattle.end_state.specs.declared.groups.Groups.{Groups}
use Rattle.end_state.specs.declared.settings.Settings.{Settings}
use Rattle.endpoint_model.specs.State.{State, Sessions}

abbrev pub state_of : Settings → ℕ → ℕ → ℕ → Groups → StartupState → Sessions → State
state_of settings moment sealed limit groups startup sessions =
    record {
      config = settings.config;
      moment = moment;
      sealed = sealed;
      limit = limit;
      group = groups.current;
      next = groups.next;
      startup = startup;
      sessions = sessions;
      introduces = settings.introduces;
      redirects = settings.directory.rows;
    }

-- What is kept beside the state is what it should be.
pub record IsEnd (settings : Settings) (print : List ℕ) (startup : StartupState) : Type 0 where
  pub print_is : print ≡ startup.ledger.own
  pub few : settings.config.max_sessions ≤ 65536
