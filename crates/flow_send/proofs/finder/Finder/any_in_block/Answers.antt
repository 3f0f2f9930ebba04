use Rattle.std.proofs.Common.{◌%◌, arith}
use Rattle.flow_send.proofs.Finding.{none_in_block}
use Rattle.flow_send.proofs.finder.Finder.any_in_block.Goals as goal

pub returns : goal.returns
returns c = λ none. none_in_block c.args.pending c.args.self.now c.args.rows.now.items c.args.at (c.place.result % 64) c.min-to.result c.saturating_sub.result
    (omega (arith, c.place.ensures.own))
    (λ i lt near. omega (arith, lt, near, c.min-to.ensures, c.saturating_add.ensures, c.len.ensures, c.args.rows.now.ok))
    (omega (arith, c.saturating_sub.ensures))
    (c.any_of.ensures c.if-any_of.false) (c.any_of-2.ensures none)
