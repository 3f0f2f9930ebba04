use Rattle.log_digest.proofs.Going.{generations_first}
use Rattle.log_digest.proofs.generations.Generations.new.Goals as goal

pub returns-clause-log : goal.returns-clause-log
returns-clause-log c = λ setup is. generations_first setup c.args.first is
