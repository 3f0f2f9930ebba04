use Rattle.session_table.proofs.Rounds.{empty_rises, false_true}
use Rattle.session_table.proofs.round.Round.begin.Goals as goal

pub returns-clause-rises : goal.returns-clause-rises
returns-clause-rises c = empty_rises _ _ c.clear.ensures.items

pub returns-clause-left : goal.returns-clause-left
returns-clause-left c some = false_true some
