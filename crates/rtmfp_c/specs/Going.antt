-- What a call does to an end and its outbox.
use Rattle.std.specs.Prelude.{ℕ, ◌≡◌, List, [], Result}
use Rattle.rtmfp_forms.specs.Address.{AddressParts}
use Rattle.endpoint_model.specs.declared.config.Draws.{Draws}
use Rattle.endpoint_model.specs.declared.answers.Stopped.{Stopped}
use Rattle.endpoint_model.specs.Event.{Call, Setup}
use Rattle.endpoint_model.specs.Admission.{admission}
use Rattle.endpoint_model.specs.State.{at_moment}
use Rattle.endpoint_model.specs.Log.{Extends, IsTaken, StandsFor, receive_event}
use Rattle.endpoint.specs.declared.call.Answered.{Answered}
use Rattle.endpoint.specs.Calls.{Called, called_event}
use Rattle.rtmfp_c.specs.declared.node.Node.{Node}

-- The call was made at a moment: what it answered, left and added is what it may, and the end
-- stands for its log with this call and this answer.
pub record Makes (moment : ℕ) (call : Call) (answered : Answered) (old new : Node) : Type 0 where
  pub called : Called old.end moment call answered new.end old.out new.out
  pub stands : Extends old.end new.end
      (called_event moment call answered old.out.entries new.out.entries)

-- The same of a datagram that came from an address.
pub record Receives (from : AddressParts) (moment : ℕ) (datagram : List ℕ) (draws : Draws)
    (answered : Result (Unit {0}) Stopped) (old new : Node) : Type 0 where
  pub taken : IsTaken (at_moment old.end moment) from draws
      (admission (at_moment old.end moment) datagram) answered new.end old.out new.out
  pub stands : Extends old.end new.end
      (receive_event from moment datagram draws answered old.out.entries new.out.entries)

-- The entries were dropped, and nothing else.
pub record Clears (old new : Node) : Type 0 where
  pub end_is : new.end ≡ old.end
  pub entries : new.out.entries ≡ []

-- The end is made of this, stands for the empty log, and added nothing.
pub record IsFresh (setup : Setup) (node : Node) : Type 0 where
  pub stands : StandsFor setup [] node.end
  pub entries : node.out.entries ≡ []
