use Rattle.log_lines.proofs.Ages.{hearing_tells}
use Rattle.log_lines.proofs.laws.hearings_tell_the_last.Goals as goal

pub returns : goal.returns
returns c = hearing_tells
