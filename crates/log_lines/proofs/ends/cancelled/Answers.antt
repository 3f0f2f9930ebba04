use Rattle.std.proofs.Common.{◌∙◌, sym, ap}
use Rattle.log_lines.specs.Decisions.{is_cancelled}
use Rattle.log_lines.proofs.Ending.{cancel_decides}
use Rattle.log_lines.proofs.ends.cancelled.Goals as goal

pub returns-clause-yes : goal.returns-clause-yes
returns-clause-yes c = λ nonce now past is e. (cancel_decides nonce now past c.args.digest.now is c.args.call.now c.args.peer.now).0 (sym (c.is_cancelled.ensures ∙ ap (is_cancelled c.args.call.now) c.held.ensures) ∙ e)

pub returns-clause-no : goal.returns-clause-no
returns-clause-no c = λ nonce now past is so. (c.is_cancelled.ensures ∙ ap (is_cancelled c.args.call.now) c.held.ensures) ∙ (cancel_decides nonce now past c.args.digest.now is c.args.call.now c.args.peer.now).1 so
