use Rattle.std.proofs.Common.{refl}
use Rattle.rtmfp_node.specs.Report.{unsent_line}
use Rattle.rtmfp_node.proofs.edges.lines_of_a_journal.Goals as goal

pub returns-clause-unsent : goal.returns-clause-unsent
unfolding unsent_line
returns-clause-unsent c number = refl
