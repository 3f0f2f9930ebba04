use Rattle.std.proofs.Common.{rules}
use Rattle.rtmfp_forms.proofs.outgoing.Outgoing.room.Goals as goal

pub returns : goal.returns
returns c = search rules
