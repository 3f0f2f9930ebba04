-- Values for the rows of this crate.
use Rattle.std.specs.Prelude.{ℕ, [], ◌∷◌, false}
use Rattle.endpoint_model.specs.declared.entry.Entry.TheVariants.{Learnt}
use Rattle.endpoint_model.specs.Event.{Setup, Learn, Introduce, Done}
use Rattle.endpoint_laws.specs.History.{Happened}

-- an end that is told by one byte of its certificate, its first generation, and one byte of the
-- secret of that
abbrev pub end : ℕ → ℕ → ℕ → Setup
end cert generation secret = record {
  config = record { max_peers = 1; max_sessions = 1; introduces = false };
  cert = cert ∷ [];
  generation = generation;
  secret = secret ∷ [];
  cookie_secret = [];
}

-- the event of an end that learns this secret with this number
abbrev pub learns : ℕ → ℕ → ℕ → Happened
learns who generation secret = record {
  who = who;
  event = record {
    moment = 0;
    call = Learn (secret ∷ []);
    answer = Done;
    entries = Learnt generation ∷ [];
  };
}

-- an event without entries
abbrev pub quiet : ℕ → Happened
quiet who = record {
  who = who;
  event = record { moment = 0; call = Introduce; answer = Done; entries = [] };
}
