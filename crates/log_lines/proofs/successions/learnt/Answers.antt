use Rattle.std.proofs.Common.{◌∙◌, sym}
use Rattle.log_lines.proofs.Ending.{learnt_decides}
use Rattle.log_lines.proofs.successions.learnt.Goals as goal

pub returns-clause-yes : goal.returns-clause-yes
returns-clause-yes c = λ setup nonce past are e. (learnt_decides nonce setup past c.args.generations.now are c.args.call.now c.args.generation).0 (sym (c.is_learnt.ensures) ∙ e)

pub returns-clause-no : goal.returns-clause-no
returns-clause-no c = λ setup nonce past are so. (c.is_learnt.ensures) ∙ (learnt_decides nonce setup past c.args.generations.now are c.args.call.now c.args.generation).1 so
