use Rattle.std.proofs.Common.{ap, ◌∙◌, is_some, refl}
use Rattle.std.specs.Map.{lookup}
use Rattle.std.specs.Str.{bytes_eq}
use Rattle.glare_core.proofs.Tables.{found_row}
use Rattle.fact_digest.proofs.Facts.{rows_in}
use Rattle.fact_digest.proofs.roll.Roll.knows.Goals as goal

pub returns : goal.returns
returns c = c.contains_key.ensures ∙ ap is_some (found_row c.self.inside.rows.entries c.args.self.now.rows c.args.peer.now (lookup (bytes_eq c.args.peer.now) c.self.inside.rows.entries) (ap rows_in c.self.view_is) refl)
