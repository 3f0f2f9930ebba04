use Rattle.log_births.proofs.Making.{way_is}
use Rattle.log_births.proofs.ways.way_of.Goals as goal

pub returns : goal.returns
returns c = λ own now past is may. way_is now past c.args.entry.now own c.args.digest.now is may c.way_by.result c.way_by.ensures
