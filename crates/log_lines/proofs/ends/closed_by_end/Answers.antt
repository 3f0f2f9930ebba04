use Rattle.std.proofs.Common.{◌∙◌, sym}
use Rattle.log_lines.proofs.Asked.{closes_decides}
use Rattle.log_lines.proofs.ends.closed_by_end.Goals as goal

pub returns-clause-yes : goal.returns-clause-yes
returns-clause-yes c = λ nonce e. (closes_decides nonce c.args.call.now c.args.near).0 (sym (c.closes.ensures) ∙ e)

pub returns-clause-no : goal.returns-clause-no
returns-clause-no c = λ nonce so. (c.closes.ensures) ∙ (closes_decides nonce c.args.call.now c.args.near).1 so
