use Rattle.std.proofs.Common.{◌∙◌, sym}
use Rattle.log_lines.proofs.Ending.{idle_decides}
use Rattle.log_lines.proofs.ends.idle.Goals as goal

pub returns-clause-yes : goal.returns-clause-yes
returns-clause-yes c = λ secrets setup nonce now past near is of e. (idle_decides nonce now past c.args.digest.now is c.args.call.now secrets setup c.args.peer.now near c.args.last of).0 (sym (c.is_over_idle.ensures) ∙ e)

pub returns-clause-no : goal.returns-clause-no
returns-clause-no c = λ secrets setup nonce now past near is of so. (c.is_over_idle.ensures) ∙ (idle_decides nonce now past c.args.digest.now is c.args.call.now secrets setup c.args.peer.now near c.args.last of).1 so
