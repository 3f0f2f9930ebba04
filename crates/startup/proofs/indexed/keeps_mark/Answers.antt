use Rattle.std.proofs.Common.{rules}
use Rattle.startup.proofs.indexed.keeps_mark.Goals as goal

pub returns-in-Recookied-clause-marks : goal.returns-in-Recookied-clause-marks
returns-in-Recookied-clause-marks c = search rules
