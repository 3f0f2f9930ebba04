use Rattle.log_packets.proofs.OpenedReads.{among_answers}
use Rattle.log_packets.proofs.laws.an_answer_is_among_its_chunks.Goals as goal

pub returns : goal.returns
returns c = among_answers
