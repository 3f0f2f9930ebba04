use Rattle.std.proofs.Common.{◌∙◌, sym}
use Rattle.log_lines.proofs.Ending.{closed_decides}
use Rattle.log_lines.proofs.ends.closed_by_time.Goals as goal

pub returns-clause-yes : goal.returns-clause-yes
returns-clause-yes c = λ nonce now past is e. (closed_decides nonce now past c.args.digest.now is c.args.call.now c.args.near).0 (sym (c.is_closed.ensures) ∙ e)

pub returns-clause-no : goal.returns-clause-no
returns-clause-no c = λ nonce now past is so. (c.is_closed.ensures) ∙ (closed_decides nonce now past c.args.digest.now is c.args.call.now c.args.near).1 so
