use Rattle.std.proofs.Common.{◌+◌, length, sym, ◌∙◌}
use Rattle.flow_send.specs.Messages.{keeps}
use Rattle.flow_send.proofs.Walking.{all_stay, stays_there, in_line, not_kept}
use Rattle.flow_send.proofs.backlog.Backlog.drop_unless_kept.Goals as goal

pub returns-then-is_kept-clause-left : goal.returns-then-is_kept-clause-left
returns-then-is_kept-clause-left c =
    let n = c.args.forward + 1 in
    let rows = c.args.rows.now.rows in
    let ws = c.args.self.now in
    sym (all_stay (keeps n rows c.args.low c.args.high) c.args.number ws (in_line 0 (n + length rows) ws c.requires) (stays_there n rows c.args.low c.args.high c.args.number ws (sym c.is_kept.ensures.kept ∙ c.if-is_kept.true)))

pub returns-clause-left : goal.returns-clause-left
returns-clause-left c =
    let n = c.args.forward + 1 in
    let rows = c.args.rows.now.rows in
    let ws = c.args.self.now in
    c.remove.ensures ∙ not_kept n rows c.args.low c.args.high c.args.number ws (in_line 0 (n + length rows) ws c.requires) (sym c.is_kept.ensures.kept ∙ c.if-is_kept.false)
