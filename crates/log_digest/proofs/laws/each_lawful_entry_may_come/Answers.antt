use Rattle.log_digest.proofs.Coming.{lawful_may_come}
use Rattle.log_digest.proofs.laws.each_lawful_entry_may_come.Goals as goal

pub returns : goal.returns
returns c = lawful_may_come
