-- Which of the group's secrets goes at a place, of those that an end keeps hashed.
use Rattle.std.specs.FinMap.{get}
use Rattle.crypto_profile.specs.declared.group.GroupSecret.{GroupSecret}
use Rattle.startup.specs.State.{StartupState}
use Rattle.endpoint_model.specs.declared.place.Place.{Place}
use Rattle.endpoint_model.specs.declared.place.Place.TheVariants.{Startup, Attempt, Session}
use Rattle.endpoint_model.specs.Admission.{attempt_group, known_group}
use Rattle.end_state.specs.declared.groups.Groups.{Groups}

-- the one of a place, outside of sessions
abbrev pub group_there : Groups → StartupState → Place → GroupSecret
group_there groups startup (Startup generation) =
    known_group generation groups.next groups.current
group_there groups startup (Attempt near generation) =
    attempt_group groups.current (get startup.attempts near)
group_there groups startup (Session near) = groups.current
