use Rattle.std.proofs.Common.{◌∙◌, sym}
use Rattle.log_lines.proofs.Standing.{free_decides}
use Rattle.log_lines.proofs.facts.is_free.Goals as goal

pub returns-clause-yes : goal.returns-clause-yes
returns-clause-yes c = λ last past is e. (free_decides last past c.args.digest.now is c.args.near).0 (sym (c.is_unused.ensures) ∙ e)

pub returns-clause-no : goal.returns-clause-no
returns-clause-no c = λ last past is so. (c.is_unused.ensures) ∙ (free_decides last past c.args.digest.now is c.args.near).1 so
