use Rattle.std.proofs.Common.{◌∙◌, ap}
use Rattle.glare_core.specs.Ledger.{row_count}
use Rattle.glare_core.proofs.Accounts.{reads_rows}
use Rattle.glare_core.proofs.peers.Peers.rows.Goals as goal

pub returns-clause-facts : goal.returns-clause-facts
returns-clause-facts c = λ from facts stands. c.len.ensures ∙ ap row_count c.self.view_is ∙ reads_rows from c.args.self.now facts stands
