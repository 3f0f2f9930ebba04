use Rattle.std.proofs.Common.{◌∙◌, sym}
use Rattle.log_lines.proofs.Ending.{overdue_decides}
use Rattle.log_lines.proofs.ends.expired.Goals as goal

pub returns-clause-yes : goal.returns-clause-yes
returns-clause-yes c = λ nonce now past is e. (overdue_decides nonce now past c.args.digest.now is c.args.call.now c.args.peer.now c.args.near).0 (sym (c.is_expired.ensures) ∙ e)

pub returns-clause-no : goal.returns-clause-no
returns-clause-no c = λ nonce now past is so. (c.is_expired.ensures) ∙ (overdue_decides nonce now past c.args.digest.now is c.args.call.now c.args.peer.now c.args.near).1 so
