-- Each call of an end that calls led to leads on to another.
use Rattle.std.proofs.Common.{List, [], ◌∷◌, ◌++◌}
use Rattle.endpoint_model.specs.Event.{Setup, Event}
use Rattle.endpoint_model.specs.State.{State}
use Rattle.endpoint_model.specs.Log.{StandsFor, Extends}
use Rattle.endpoint_laws.specs.Laws.{IsSetup, IsCall, AreCalls}
use Rattle.endpoint_laws.proofs.Logged.{TiedToLog, tied_to_log}
use Rattle.endpoint.specs.Reached.{IsReached}

pub calls_more : (log : List Event) (e : Event) → AreCalls log → IsCall e.call → AreCalls (log ++ e ∷ [])
calls_more [] e are is = (is, tt)
calls_more (first ∷ log) e are is = (are.0, calls_more log e are.1 is)

-- a new end
pub reached_new : (setup : Setup) (s : State) → IsSetup setup → StandsFor setup [] s → IsReached s
reached_new setup s sizes stands = record { setup = setup; log = []; sizes = sizes; calls = tt; stands = stands }

-- one more call
pub reached_more : (s t : State) (e : Event) → IsReached s → Extends s t e → IsCall e.call → IsReached t
reached_more s t e is extends call = record {
  setup = is.setup;
  log = is.log ++ e ∷ [];
  sizes = is.sizes;
  calls = calls_more is.log e is.calls call;
  stands = extends is.setup is.log is.stands;
}

-- the state agrees with the log that leads to it, by the secrets that the end was given and learnt
pub tied_there : (s : State) (is : IsReached s) → TiedToLog is.setup is.log s
tied_there s is = tied_to_log is.setup is.log s is.sizes is.calls is.stands
