use Rattle.std.proofs.Common.{Some, None, ap}
use Rattle.glare_core.specs.Ledger.{row_or_blank}
use Rattle.glare_core.proofs.Tables.{found_row}
use Rattle.fact_digest.proofs.Facts.{rows_in}
use Rattle.fact_digest.proofs.roll.Roll.row.Goals as goal

pub returns-in-Some : goal.returns-in-Some
returns-in-Some c = ap row_or_blank (found_row c.self.inside.rows.entries c.args.self.now.rows c.args.peer.now (Some c.in-Some.row.now) (ap rows_in c.self.view_is) c.in-Some.ensures.value)

pub returns-in-None : goal.returns-in-None
returns-in-None c = ap row_or_blank (found_row c.self.inside.rows.entries c.args.self.now.rows c.args.peer.now None (ap rows_in c.self.view_is) c.in-None.ensures.value)
