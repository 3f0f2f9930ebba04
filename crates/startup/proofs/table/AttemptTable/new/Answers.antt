use Rattle.startup.proofs.Seats.{none_is_kept}
use Rattle.startup.proofs.table.AttemptTable.new.Goals as goal

pub invariant_of-result : goal.invariant_of-result
invariant_of-result c = none_is_kept c.new.result c.new-2.result.keys c.new-3.result c.new.ensures.things c.new-2.ensures c.new-3.ensures
