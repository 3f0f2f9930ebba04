use Rattle.std.proofs.Common.{◌∙◌}
use Rattle.rtmfp_play.proofs.LogsTold.{event_added}
use Rattle.rtmfp_play.proofs.journal.push_told.Goals as goal

pub returns : goal.returns
returns c =
    event_added c.push_line.result c.args.begun c.args.world.now.ends c.as_slice.result.now c.args.moments.now c.args.line.now c.args.text.now c.push_unless.new.text c.push_line.new.text c.name_at-name.result c.end-end.result c.moment_at.result
    c.in_ok-push_unless.ensures (c.as_slice.ensures ∙ c.named.ensures) c.end-end.ensures c.name_at-name.ensures c.moment_at.ensures c.push_line.ensures
