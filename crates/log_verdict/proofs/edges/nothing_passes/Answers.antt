use Rattle.log_verdict.proofs.Rows.{one_passes, two_pass}
use Rattle.log_verdict.proofs.edges.nothing_passes.Goals as goal

pub returns-clause-one : goal.returns-clause-one
returns-clause-one c = one_passes

pub returns-clause-two : goal.returns-clause-two
returns-clause-two c = two_pass
