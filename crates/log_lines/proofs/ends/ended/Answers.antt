use Rattle.std.proofs.Common.{◌∙◌, sym}
use Rattle.log_lines.proofs.Ending.{ended_decides}
use Rattle.log_lines.proofs.ends.ended.Goals as goal

pub returns-clause-yes : goal.returns-clause-yes
returns-clause-yes c = λ secrets setup nonce now past is none e. (ended_decides nonce now past c.args.digest.now is c.args.call.now secrets setup c.args.rest.now c.args.peer.now c.args.near c.args.why none).0 (sym (c.is_ended.ensures) ∙ e)

pub returns-clause-no : goal.returns-clause-no
returns-clause-no c = λ secrets setup nonce now past is none so. (c.is_ended.ensures) ∙ (ended_decides nonce now past c.args.digest.now is c.args.call.now secrets setup c.args.rest.now c.args.peer.now c.args.near c.args.why none).1 so
