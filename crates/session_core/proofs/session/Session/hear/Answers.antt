use Rattle.std.proofs.Common.{rules}
use Rattle.session_core.proofs.session.Session.hear.Goals as goal

pub returns-after-take-clause-answer : goal.returns-after-take-clause-answer
returns-after-take-clause-answer c = search rules
