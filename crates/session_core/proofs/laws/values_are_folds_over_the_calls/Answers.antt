use Rattle.session_core.proofs.Folds.{taken_is_the_last, stamp_is_the_last, address_is_the_last, trip_is_by_the_samples, window_is_by_acks_and_losses, ends_stay}
use Rattle.session_core.proofs.laws.values_are_folds_over_the_calls.Goals as goal

pub returns-clause-taken : goal.returns-clause-taken
returns-clause-taken c = taken_is_the_last

pub returns-clause-stamp : goal.returns-clause-stamp
returns-clause-stamp c = stamp_is_the_last

pub returns-clause-address : goal.returns-clause-address
returns-clause-address c = address_is_the_last

pub returns-clause-trip : goal.returns-clause-trip
returns-clause-trip c = trip_is_by_the_samples

pub returns-clause-window : goal.returns-clause-window
returns-clause-window c = window_is_by_acks_and_losses

pub returns-clause-ends : goal.returns-clause-ends
returns-clause-ends c = ends_stay
