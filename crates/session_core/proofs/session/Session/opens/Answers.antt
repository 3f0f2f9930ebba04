use Rattle.std.proofs.Common.{rules, ◌≡◌}
use Rattle.session_core.specs.Hearing.{opens_in}
use Rattle.session_core.proofs.Hears.{opens_exactly}
use Rattle.session_core.proofs.session.Session.opens.Goals as goal

pub returns-clause-exact : goal.returns-clause-exact
returns-clause-exact c =
    let value : c.opens_under.result ≡ opens_in c.args.self.now c.args.sealed.now = search rules in
    opens_exactly c.args.self.now c.args.sealed.now c.opens_under.result value
