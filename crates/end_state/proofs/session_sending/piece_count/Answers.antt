use Rattle.std.proofs.Common.{sym}
use Rattle.end_state.proofs.InPieces.{piece_count}
use Rattle.end_state.proofs.session_sending.piece_count.Goals as goal

pub returns : goal.returns
returns c = sym (piece_count c.args.packet.now c.args.size c.requires.size c.requires.some)
