use Rattle.std.proofs.Common.{◌-◌}
use Rattle.startup.specs.Marks.{IsBetween}
use Rattle.startup.proofs.marks.place.Given as goal

abbrev pub invariant-loop-low : goal.invariant-loop-low
invariant-loop-low l = IsBetween l.marks l.mark l.low l.high

abbrev pub decreases-loop-low : goal.decreases-loop-low
decreases-loop-low l = l.high - l.low
