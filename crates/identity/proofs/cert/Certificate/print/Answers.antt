use Rattle.std.proofs.Common.{rules}
use Rattle.identity.proofs.cert.Certificate.print.Goals as goal

pub returns : goal.returns
returns c = search rules
