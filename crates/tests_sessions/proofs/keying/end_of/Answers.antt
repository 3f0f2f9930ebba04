use Rattle.std.proofs.Common.{ap}
use Rattle.startup.specs.State.{StartupState}
use Rattle.startup.proofs.Stepping.{none_without_attempts}
use Rattle.tests_sessions.proofs.keying.end_of.Goals as goal

pub returns : goal.returns
returns c = none_without_attempts c.new.result 6 (ap (λ (s : StartupState). s.attempts) c.new.ensures)
