use Rattle.endpoint_checks.proofs.Stopping.{no_idle_tick_stops, none_stops_before, stops_are_in_order}
use Rattle.endpoint_checks.proofs.stops.Goals as goal

pub returns-clause-datagrams : goal.returns-clause-datagrams
returns-clause-datagrams c = stops_are_in_order

pub returns-clause-before : goal.returns-clause-before
returns-clause-before c = none_stops_before

pub returns-clause-ticks : goal.returns-clause-ticks
returns-clause-ticks c = no_idle_tick_stops
