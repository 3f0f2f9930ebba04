use Rattle.std.proofs.Common.{rules}
use Rattle.startup_packets.specs.Packets.{is_signed_by}
use Rattle.startup_packets.proofs.parts.is_signed.Goals as goal

pub returns : goal.returns
unfolding is_signed_by
returns c = search rules
