use Rattle.fact_digest.proofs.Facts.{none_said}
use Rattle.fact_digest.proofs.roll.Roll.new.Goals as goal

pub returns-clause-facts : goal.returns-clause-facts
returns-clause-facts c = rw c.new.ensures.empty none_said
