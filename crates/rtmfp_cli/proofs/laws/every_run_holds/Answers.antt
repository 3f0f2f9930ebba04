use Rattle.rtmfp_cli.proofs.Holding.{runs_hold, empty_holds, run_is_agreed, run_hands_over}
use Rattle.rtmfp_cli.specs.Doing.{playing}
use Rattle.rtmfp_cli.proofs.laws.every_run_holds.Goals as goal

pub returns-clause-holds : goal.returns-clause-holds
returns-clause-holds c = λ lines left text ran. runs_hold 1 playing left lines text empty_holds ran

pub returns-clause-agreed : goal.returns-clause-agreed
returns-clause-agreed c = run_is_agreed

pub returns-clause-hands_over : goal.returns-clause-hands_over
returns-clause-hands_over c = run_hands_over
