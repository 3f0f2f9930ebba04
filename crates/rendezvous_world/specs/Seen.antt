-- What a world is: its moment, its ends by their numbers, and the lines of its journal, the oldest
-- first.
use Rattle.std.specs.Prelude.{ℕ, false, zero, suc, List, [], ◌∷◌, Option, Some, None, refl}
use Rattle.std.specs.Coded.{Coded, code_by, coded×, coded_ℕ, coded_list}
use Rattle.counted_secrets.specs.Secrets.{counted_secret, counted_secrets}
use Rattle.endpoint_model.specs.declared.config.Config.{Config}
use Rattle.endpoint_model.specs.Event.{Setup, own_of}
use Rattle.endpoint_model.specs.State.{State}
use Rattle.endpoint_laws.specs.Contexts.{Secrets}
use Rattle.rendezvous_world.specs.declared.journal.JournalLine.{JournalLine}

pub record EndSeen : Type 0 where
  pub name : List ℕ
  -- what it was given at its beginning
  pub setup : Setup
  -- what it keeps
  pub state : State

pub record Seen : Type 0 where
  pub moment : ℕ
  pub ends : List EndSeen
  pub lines : List JournalLine

-- the number of the generation with which every end begins
abbrev pub first_generation : ℕ
first_generation = 0

-- the secrets of the group of every end, by their generations
abbrev pub group_secrets : Secrets
group_secrets = counted_secrets

-- what an end of nobody would be given
abbrev pub nobody : Setup
nobody = record {
  config = record { max_peers = 0; max_sessions = 0; introduces = false };
  cert = [];
  generation = first_generation;
  secret = counted_secret first_generation;
  cookie_secret = [];
}

-- what the end with this number was given
abbrev pub setup_at : List EndSeen → ℕ → Setup
setup_at [] who = nobody
setup_at (end ∷ ends) zero = end.setup
setup_at (end ∷ ends) (suc who) = setup_at ends who

-- the fingerprint of the end with this number
abbrev pub print_at : List EndSeen → ℕ → List ℕ
print_at ends who = own_of (setup_at ends who)

-- what the end with this number keeps
abbrev pub state_at : List EndSeen → ℕ → Option State
state_at [] who = None
state_at (end ∷ ends) zero = Some end.state
state_at (end ∷ ends) (suc who) = state_at ends who

-- the current generation of the group's secret at the end with this number
abbrev pub generation_at : List EndSeen → ℕ → ℕ
generation_at [] who = first_generation
generation_at (end ∷ ends) zero = end.state.group.generation
generation_at (end ∷ ends) (suc who) = generation_at ends who

-- ---- how a world is stored: as the tuples of its fields

abbrev pub setup_code : Coded Config → Coded Setup
setup_code config =
    code_by (Config × (List ℕ × (ℕ × (List ℕ × List ℕ))))
    (coded× config (coded× (coded_list coded_ℕ) (coded× coded_ℕ
    (coded× (coded_list coded_ℕ) (coded_list coded_ℕ)))))
    (λ s. (s.config, (s.cert, (s.generation, (s.secret, s.cookie_secret)))))
    (λ p. record {
      config = p.0;
      cert = p.1.0;
      generation = p.1.1.0;
      secret = p.1.1.1.0;
      cookie_secret = p.1.1.1.1;
    })
    (λ _. refl)

abbrev pub end_code : Coded Config → Coded State → Coded EndSeen
end_code config state =
    code_by (List ℕ ×
    (Setup × State)) (coded× (coded_list coded_ℕ) (coded× (setup_code config) state))
    (λ e. (e.name, (e.setup, e.state))) (λ p. record { name = p.0; setup = p.1.0; state = p.1.1 })
    (λ _. refl)

abbrev pub seen_code : Coded Config → Coded State → Coded JournalLine → Coded Seen
seen_code config state line =
    code_by (ℕ × (List EndSeen × List JournalLine))
    (coded× coded_ℕ (coded× (coded_list (end_code config state)) (coded_list line)))
    (λ w. (w.moment, (w.ends, w.lines))) (λ p. record { moment = p.0; ends = p.1.0; lines = p.1.1 })
    (λ _. refl)
