use Rattle.std.proofs.Common.{◌∙◌, sym}
use Rattle.log_lines.proofs.Ending.{search_over_decides}
use Rattle.log_lines.proofs.searches.unsought.Goals as goal

pub returns-clause-yes : goal.returns-clause-yes
returns-clause-yes c = λ nonce now past is e. (search_over_decides nonce now past c.args.digest.now is c.args.call.now c.args.near c.args.why).0 (sym (c.is_search_over.ensures) ∙ e)

pub returns-clause-no : goal.returns-clause-no
returns-clause-no c = λ nonce now past is so. (c.is_search_over.ensures) ∙ (search_over_decides nonce now past c.args.digest.now is c.args.call.now c.args.near c.args.why).1 so
