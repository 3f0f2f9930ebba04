use Rattle.std.proofs.Common.{◌∙◌, sym}
use Rattle.log_lines.proofs.Ending.{unconfirmed_decides}
use Rattle.log_lines.proofs.ends.unconfirmed.Goals as goal

pub returns-clause-yes : goal.returns-clause-yes
returns-clause-yes c = λ nonce now past is e. (unconfirmed_decides nonce now past c.args.digest.now is c.args.call.now c.args.peer.now).0 (sym (c.is_late.ensures) ∙ e)

pub returns-clause-no : goal.returns-clause-no
returns-clause-no c = λ nonce now past is so. (c.is_late.ensures) ∙ (unconfirmed_decides nonce now past c.args.digest.now is c.args.call.now c.args.peer.now).1 so
