use Rattle.std.proofs.Common.{◌∙◌, sym}
use Rattle.log_lines.proofs.Standing.{standing_decides}
use Rattle.log_lines.proofs.facts.stands.Goals as goal

pub returns-clause-yes : goal.returns-clause-yes
returns-clause-yes c = λ last past is e. (standing_decides c.args.own.now _ c.args.digest.now.roll is.roll_is c.args.fact.now).0 (sym (c.is_standing.ensures.value) ∙ e)

pub returns-clause-no : goal.returns-clause-no
returns-clause-no c = λ last past is so. (c.is_standing.ensures.value) ∙ (standing_decides c.args.own.now _ c.args.digest.now.roll is.roll_is c.args.fact.now).1 so
