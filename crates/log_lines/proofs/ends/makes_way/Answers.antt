use Rattle.std.proofs.Common.{◌∙◌, sym}
use Rattle.log_lines.proofs.Ending.{born_next_decides}
use Rattle.log_lines.proofs.ends.makes_way.Goals as goal

pub returns-clause-yes : goal.returns-clause-yes
returns-clause-yes c = λ e. (born_next_decides c.args.peer.now c.args.rest.now).0 (sym c.is_birth_next.ensures ∙ e)

pub returns-clause-no : goal.returns-clause-no
returns-clause-no c = λ so. c.is_birth_next.ensures ∙ (born_next_decides c.args.peer.now c.args.rest.now).1 so
