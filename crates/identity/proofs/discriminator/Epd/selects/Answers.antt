use Rattle.std.proofs.Common.{rules}
use Rattle.identity.proofs.discriminator.Epd.selects.Goals as goal

pub returns : goal.returns
returns c = search rules
