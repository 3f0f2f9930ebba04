use Rattle.flow_send.specs.Finder.{NoneIn}
use Rattle.flow_send.proofs.finder.any_of.Given as goal

abbrev pub invariant-loop-at : goal.invariant-loop-at
invariant-loop-at l = NoneIn l.pending l.from l.at l.rows.items
