use Rattle.std.proofs.Common.{◌∙◌, sym}
use Rattle.std.proofs.lemmas.Bool.Decides.{Decides-and}
use Rattle.log_lines.proofs.Asked.{opens_decides}
use Rattle.log_lines.proofs.Standing.{free_decides}
use Rattle.log_lines.proofs.facts.started.Goals as goal

pub returns-clause-yes : goal.returns-clause-yes
returns-clause-yes c = λ last past is e. (Decides-and _ _ (opens_decides c.args.nonce.now c.args.call.now c.args.peer.now c.args.ni.now) (free_decides last past c.args.digest.now is c.args.near)).0 (sym (c.is_opened.ensures) ∙ e)

pub returns-clause-no : goal.returns-clause-no
returns-clause-no c = λ last past is so. (c.is_opened.ensures) ∙ (Decides-and _ _ (opens_decides c.args.nonce.now c.args.call.now c.args.peer.now c.args.ni.now) (free_decides last past c.args.digest.now is c.args.near)).1 so
