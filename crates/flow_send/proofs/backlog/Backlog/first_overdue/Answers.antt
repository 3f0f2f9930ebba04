use Rattle.std.proofs.Common.{◌+◌, List, length, ap, sym, ◌∙◌, subst}
use Rattle.flow_send.specs.declared.waiting.Waiting.{Waiting}
use Rattle.flow_send.specs.Lows.{block_of}
use Rattle.flow_send.specs.Marks.{NoneSpentBefore}
use Rattle.flow_send.proofs.Lowest.{spent_after}
use Rattle.flow_send.proofs.Walking.{in_line}
use Rattle.flow_send.proofs.backlog.Backlog.first_overdue.Goals as goal

pub clear-requires-clause-passed : goal.clear-requires-clause-passed
clear-requires-clause-passed c =
    let n = c.args.forward + 1 in
    let rows = c.args.rows.now.rows in
    let ws = c.args.self.now in
    let end = c.block_of-end.ensures ∙ ap block_of c.unwrap_or.ensures in
    subst (λ (vs : List Waiting). NoneSpentBefore c.block_of-end.result n rows vs) (sym c.raise.ensures)
    (subst (λ k. NoneSpentBefore k n rows ws) (sym end) (spent_after c.args.moment n 0 rows ws c.look-number.result (in_line 0 (n + length rows) ws c.requires.line) c.look-number.ensures))
