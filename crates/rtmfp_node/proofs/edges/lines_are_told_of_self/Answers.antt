use Rattle.std.proofs.Common.{refl}
use Rattle.rtmfp_report.specs.LineText.{head_text, line_text}
use Rattle.rtmfp_report.specs.RefusalText.{open_refusal_text, refused_line, start_refusal_text}
use Rattle.rtmfp_node.specs.Report.{unsent_line}
use Rattle.rtmfp_node.proofs.edges.lines_are_told_of_self.Goals as goal

pub returns-clause-unsent : goal.returns-clause-unsent
unfolding unsent_line line_text head_text
returns-clause-unsent c turn number = refl

pub returns-clause-refused : goal.returns-clause-refused
unfolding refused_line line_text head_text open_refusal_text start_refusal_text
returns-clause-refused c turn = refl
