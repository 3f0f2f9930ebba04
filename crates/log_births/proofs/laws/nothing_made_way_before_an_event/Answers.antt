use Rattle.log_births.proofs.Making.{none_before}
use Rattle.log_births.proofs.laws.nothing_made_way_before_an_event.Goals as goal

pub returns : goal.returns
returns c = none_before
