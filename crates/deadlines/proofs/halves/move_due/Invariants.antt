use Rattle.std.proofs.Common.{◌≡◌}
use Rattle.deadlines.specs.Halves.{AllAreDue, IsSplit, entries_in, merged}
use Rattle.deadlines.proofs.halves.move_due.Given as goal

abbrev pub invariant-loop-first : goal.invariant-loop-first
invariant-loop-first l = record { split : IsSplit l.later l.ready; due : AllAreDue l.ready l.moment; same : merged l.later l.ready ≡ merged l.initial.later l.initial.ready }

abbrev pub decreases-loop-first : goal.decreases-loop-first
decreases-loop-first l = entries_in l.later
