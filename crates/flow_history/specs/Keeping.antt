-- What an end keeps of its flows, beside a history.
use Rattle.std.specs.Prelude.{ℕ, ◌≡◌, ◌∷◌, Option}
use Rattle.std.specs.Option.{option_map}
use Rattle.flow_recv.specs.Receiver.{Receiver}
use Rattle.flow_history.specs.Flow.{Opened, sending_after, sending_at, taking_after, taking_at}
use Rattle.flow_history.specs.Deeds.{Context, back, name, Deed, Done, done, History, touch_of}
use Rattle.flow_history.specs.Deeds.{steps_of}

-- the flows of a session by their IDs: those that were opened here, and those that were made of
-- what came
pub record Flows : Type 0 where
  pub opened : ℕ → Option Opened
  pub made : ℕ → Option Receiver

abbrev pub opened_at : ℕ → Option Flows → Option (Option Opened)
opened_at f flows = option_map (λ (x : Flows). x.opened f) flows

abbrev pub made_at : ℕ → Option Flows → Option (Option Receiver)
made_at f flows = option_map (λ (x : Flows). x.made f) flows

-- The end keeps, for each context in which a session of it sends, just the flows that the history
-- says, and elsewhere none.
pub record Keeps (h : History) (who : ℕ) (sessions : Context → Option Flows) : Type 0 where
  pub sends : (c : Context) (f : ℕ) →
      sending_at (steps_of (name c f) h) who ≡ opened_at f (sessions c)
  pub takes : (c : Context) (f : ℕ) →
      taking_at (steps_of (name (back c) f) h) who ≡ made_at f (sessions c)

-- A deed of another end changes nothing.
abbrev pub DeedsOfOthersKeep : Type 0
DeedsOfOthersKeep = (h : History) (who : ℕ) (d : Done) (sessions : Context → Option Flows) →
    (d.who ≡ who → ⊥) → Keeps h who sessions → Keeps (d ∷ h) who sessions

-- each flow is what the deed makes of it
pub record Becomes (deed : Deed) (old new : Context → Option Flows) : Type 0 where
  pub sends : (c : Context) (f : ℕ) →
      sending_after (opened_at f (old c)) (touch_of (name c f) deed) ≡ opened_at f (new c)
  pub takes : (c : Context) (f : ℕ) →
      taking_after (made_at f (old c)) (touch_of (name (back c) f) deed) ≡ made_at f (new c)

-- An end goes on keeping what the history says, where its deed makes of its flows what it then
-- keeps.
abbrev pub OwnDeedsKeep : Type 0
OwnDeedsKeep = (h : History) (who : ℕ) (deed : Deed) (old new : Context → Option Flows) →
    Becomes deed old new → Keeps h who old → Keeps (done who deed ∷ h) who new
