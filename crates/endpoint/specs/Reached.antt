-- That an end's state is one that calls lead to.
use Rattle.std.specs.Prelude.{List}
use Rattle.endpoint_model.specs.Event.{Setup, Event}
use Rattle.endpoint_model.specs.State.{State}
use Rattle.endpoint_model.specs.Log.{StandsFor}
use Rattle.endpoint_laws.specs.Laws.{IsSetup, AreCalls}

-- Some log leads to it, of an end that was begun with what it may be given, and whose calls had
-- arguments of their sizes.
pub record IsReached (s : State) : Type 0 where
  pub setup : Setup
  pub log : List Event
  pub sizes : IsSetup setup
  pub calls : AreCalls log
  pub stands : StandsFor setup log s
