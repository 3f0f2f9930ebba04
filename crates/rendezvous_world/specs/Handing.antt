-- That messages go over between the ends of a history.
use Rattle.std.specs.Prelude.{ℕ, ◌≡◌, ◌⊎◌, true, false, ◌++◌}
use Rattle.rtmfp_data_chunks.specs.HandsOver.{HandsOver, HandsOnce}
use Rattle.endpoint_model.specs.Event.{Setup}
use Rattle.endpoint_laws.specs.History.{History}
use Rattle.flow_history.specs.Deeds.{Name}
use Rattle.flow_history.specs.Log.{queued_of, abandoned_of, handed_of}
use Rattle.endpoint_handing.specs.Orders.{HasOrder}
use Rattle.endpoint_handing.specs.Told.{told, AllTold}

-- At each of its moments each flow has handed over what was queued on it: whole messages, none
-- twice. A flow in queueing order has handed them over in this order, and of those before the last
-- one only abandoned messages are missing. Each flow has one of the two orders, and whatever an end
-- states of a message is told of a flow.
pub record MessagesGoOver (ends : ℕ → Setup) (history : History) : Type 0 where
  pub in_order : (later early : History) → history ≡ later ++ early → (n : Name) →
      HasOrder false n ends early →
      HandsOver (queued_of n (told ends early)) (abandoned_of n (told ends early))
      (handed_of n (told ends early))
  pub as_they_arrive : (later early : History) → history ≡ later ++ early → (n : Name) →
      HasOrder true n ends early →
      HandsOnce (queued_of n (told ends early)) (handed_of n (told ends early))
  pub has_an_order : (later early : History) → history ≡ later ++ early → (n : Name) →
      HasOrder false n ends early ⊎ HasOrder true n ends early
  pub each_is_told : (later early : History) → history ≡ later ++ early → AllTold ends early
