use Rattle.std.proofs.Common.{sym, subst}
use Rattle.log_arrivals.specs.Startup.{TellsStartup}
use Rattle.log_arrivals.proofs.Startups.{tells_startup}
use Rattle.log_arrivals.proofs.arrival.Arrival.generation.Goals as goal

pub returns-clause-log : goal.returns-clause-log
returns-clause-log c = λ secrets setup past plain is.
    subst (TellsStartup secrets setup past) (sym c.in_startup.ensures) (tells_startup secrets setup past plain c.args.self.now is)
