use Rattle.std.proofs.Common.{◌∙◌, sym}
use Rattle.log_lines.proofs.Ending.{sought_decides}
use Rattle.log_lines.proofs.searches.sought.Goals as goal

pub returns-clause-yes : goal.returns-clause-yes
returns-clause-yes c = λ nonce now past is e. (sought_decides nonce now past c.args.digest.now is c.args.call.now c.args.near c.args.name.now).0 (sym (c.is_sought.ensures) ∙ e)

pub returns-clause-no : goal.returns-clause-no
returns-clause-no c = λ nonce now past is so. (c.is_sought.ensures) ∙ (sought_decides nonce now past c.args.digest.now is c.args.call.now c.args.near c.args.name.now).1 so
