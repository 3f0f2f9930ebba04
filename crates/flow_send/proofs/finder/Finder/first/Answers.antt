use Rattle.std.proofs.Common.{◌∙◌, arith}
use Rattle.flow_send.proofs.Finding.{passed_by}
use Rattle.flow_send.proofs.finder.Finder.first.Goals as goal

pub loop-at-preserved-then-quiet-gt0 : goal.loop-at-preserved-then-quiet-gt0
loop-at-preserved-then-quiet-gt0 c =
    c.loop-at.invariant ∙ passed_by c.args.pending c.args.self.now c.args.rows.now.items c.loop-at.at c.saturating_add-at.result (omega (arith, c.saturating_add-at.ensures))
    (λ i lo hi. c.quiet-quiet.ensures i lo (omega (arith, hi, c.saturating_add-at.ensures))) c.requires
