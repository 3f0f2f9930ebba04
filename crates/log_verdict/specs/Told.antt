-- What logs tell: their ends, and the secrets of their group.
use Rattle.std.specs.Prelude.{ℕ, List, [], ◌∷◌, get_or, false, Option, Some, None}
use Rattle.std.specs.FinMap.{empty}
use Rattle.endpoint_model.specs.Event.{Setup, learn_in}
use Rattle.endpoint_model.specs.declared.entry.Entry.{Entry}
use Rattle.endpoint_model.specs.Views.{learnt_in}
use Rattle.endpoint_laws.specs.Contexts.{Secrets}
use Rattle.endpoint_laws.specs.History.{History}
use Rattle.log_values.specs.declared.log.EndLog.{EndLog}
use Rattle.log_values.specs.Events.{setup_of}
use Rattle.log_packets.specs.Secrets.{with_secret}

-- what the ends were given first, in the order of their logs
abbrev pub setups_of : List EndLog → List Setup
setups_of [] = []
setups_of (log ∷ logs) = setup_of log ∷ setups_of logs

-- what an end without a log would be given
abbrev pub no_setup : Setup
no_setup = record {
  config = record { max_peers = 0; max_sessions = 0; introduces = false };
  cert = [];
  generation = 0;
  secret = [];
  cookie_secret = [];
}

abbrev pub end_of : List Setup → ℕ → Setup
end_of setups who = get_or setups who no_setup

-- ---- the secrets

-- those that ends are given first, on top of others: of two for one number the first one counts
abbrev pub with_firsts : List Setup → Secrets → Secrets
with_firsts [] secrets = secrets
with_firsts (setup ∷ setups) secrets =
    with_firsts setups (with_secret setup.generation setup.secret secrets)

-- the one that a call learns with a Learnt, where there are both
abbrev pub with_learnt : Option (List ℕ) → Option ℕ → Secrets → Secrets
with_learnt None learnt secrets = secrets
with_learnt (Some secret) None secrets = secrets
with_learnt (Some secret) (Some generation) secrets = with_secret generation secret secrets

-- those of the entries of a call, in their order
abbrev pub with_entries : Option (List ℕ) → List Entry → Secrets → Secrets
with_entries learns [] secrets = secrets
with_entries learns (entry ∷ rest) secrets =
    with_entries learns rest (with_learnt learns (learnt_in entry) secrets)

-- The secrets of a history of these ends: those that they were given first, in their order, and
-- then each that was learnt, in the order of the events, whatever a Learnt rests on.
abbrev pub secrets_in : List Setup → History → Secrets
secrets_in setups [] = with_firsts setups empty
secrets_in setups (h ∷ earlier) =
    with_entries (learn_in h.event.call) h.event.entries (secrets_in setups earlier)
