use Rattle.std.proofs.Common.{ap, ◌∙◌, take}
use Rattle.endpoint_model.specs.Added.{Added}
use Rattle.rtmfp_report.specs.Tally.{tally_of}
use Rattle.rtmfp_play.specs.Generated.{all_entries}
use Rattle.rtmfp_play.proofs.Generation.{entries_more}
use Rattle.rtmfp_play.proofs.generated.summarize.Goals as goal

pub loop-line-preserved : goal.loop-line-preserved
loop-line-preserved c =
    let items = c.lines-line-items.result.now in
    let i = c.loop-line.line-index in
    c.in_ok-count.ensures.more (all_entries (take i items)) c.loop-line.invariant
    ∙ ap tally_of (entries_more items i c.line-item.result c.entries.result.now c.line-item.is c.loop-line-test.true (c.entries.ensures.entries ∙ ap (λ (added : Added). added.entries) c.out.ensures))
