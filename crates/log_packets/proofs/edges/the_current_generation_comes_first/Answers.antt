use Rattle.log_packets.proofs.Firsts.{first_stands, next_never, alone_never}
use Rattle.log_packets.proofs.edges.the_current_generation_comes_first.Goals as goal

pub returns-clause-current : goal.returns-clause-current
returns-clause-current c = λ secrets bytes plain opens. first_stands secrets 0 bytes plain opens

pub returns-clause-not_next : goal.returns-clause-not_next
returns-clause-not_next c = λ secrets bytes plain other opens first. next_never secrets 0 bytes plain other opens first

pub returns-clause-unknown : goal.returns-clause-unknown
returns-clause-unknown c = λ secrets bytes other first. alone_never secrets 0 bytes other first
