use Rattle.session_deeds.proofs.Rows.{reads_in_turn}
use Rattle.session_deeds.proofs.edges.chunks_are_read_in_turn.Goals as goal

pub returns : goal.returns
returns c = reads_in_turn
