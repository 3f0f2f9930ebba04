-- The group's secret at a place, by what an end keeps of it.
use Rattle.std.proofs.Common.{◌≡◌, ℕ, refl}
use Rattle.startup.specs.State.{StartupState}
use Rattle.endpoint_model.specs.declared.place.Place.{Place}
use Rattle.endpoint_model.specs.declared.place.Place.TheVariants.{Startup, Attempt, Session}
use Rattle.endpoint_model.specs.Admission.{group_at}
use Rattle.endpoint_model.specs.State.{Sessions}
use Rattle.end_state.specs.declared.groups.Groups.{Groups}
use Rattle.end_state.specs.declared.settings.Settings.{Settings}
use Rattle.end_state.specs.Groups.{group_there}
use Rattle.end_state.specs.Stored.{state_of}

pub there_is : (settings : Settings) (moment sealed limit : ℕ) (groups : Groups) (startup : StartupState) (sessions : Sessions) (place : Place) →
    group_there groups startup place ≡ group_at (state_of settings moment sealed limit groups startup sessions) place
there_is settings moment sealed limit groups startup sessions (Startup generation) = refl
there_is settings moment sealed limit groups startup sessions (Attempt near generation) = refl
there_is settings moment sealed limit groups startup sessions (Session near) = refl
