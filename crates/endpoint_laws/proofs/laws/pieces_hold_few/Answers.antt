use Rattle.endpoint_laws.proofs.PiecesFew.{pieces_hold_few}
use Rattle.endpoint_laws.proofs.laws.pieces_hold_few.Goals as goal

pub returns : goal.returns
returns c = pieces_hold_few
