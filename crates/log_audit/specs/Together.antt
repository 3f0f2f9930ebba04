-- What an audit keeps of all ends together.
use Rattle.std.specs.Prelude.{ℕ, ◌∷◌}
use Rattle.endpoint_model.specs.Event.{Event}
use Rattle.endpoint_laws.specs.History.{Happened, History, nonces_in}
use Rattle.log_digest.specs.Nonces.{AreNonces}
use Rattle.log_sent.specs.Sent.{IsSentOf}
use Rattle.log_audit.specs.declared.auditing.Together.{Together}

-- an event of the end with this number
abbrev pub happened : ℕ → Event → Happened
happened who event = record { who = who; event = event }

-- It is that of a history.
pub record IsTogetherOf (history : History) (t : Together) : Type 0 where
  pub sent : IsSentOf history t.sent
  pub nonces : AreNonces (nonces_in history) t.nonces

-- It is that, with an event more whose datagrams aren't added yet.
pub record IsBeforeSent (h : Happened) (history : History) (t : Together) : Type 0 where
  pub sent : IsSentOf history t.sent
  pub nonces : AreNonces (nonces_in (h ∷ history)) t.nonces
