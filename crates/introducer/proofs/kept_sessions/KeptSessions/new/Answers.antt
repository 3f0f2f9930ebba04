use Rattle.introducer.proofs.Indexed.{indexed_empty}
use Rattle.introducer.proofs.kept_sessions.KeptSessions.new.Goals as goal

pub invariant_of-result : goal.invariant_of-result
invariant_of-result c = indexed_empty c.new.result c.new-2.result c.new.ensures.empty c.new-2.ensures.empty
