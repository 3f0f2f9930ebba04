use Rattle.std.proofs.Common.{rules}
use Rattle.endpoint.proofs.NamedContexts.{opens_only_in}
use Rattle.endpoint.proofs.endpoint.Endpoint.names.Goals as goal

pub returns-in-Some-clause-named : goal.returns-in-Some-clause-named
returns-in-Some-clause-named c = search rules

pub returns-in-Some-clause-opens : goal.returns-in-Some-clause-opens
returns-in-Some-clause-opens c =
    λ yes other opens. opens_only_in c.args.self.now c.args.datagram.now c.args.context.now other ((returns-in-Some-clause-named c).0 yes) opens
