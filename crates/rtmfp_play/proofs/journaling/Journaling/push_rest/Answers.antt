use Rattle.std.proofs.Common.{ap, ◌∙◌}
use Rattle.placed_world.specs.Seen.{PlacedSeen}
use Rattle.rtmfp_play.proofs.LogsTold.{rest_added}
use Rattle.rtmfp_play.proofs.journaling.Journaling.push_rest.Goals as goal

pub returns : goal.returns
returns c =
    rest_added c.push_unless.result c.args.self.now.world c.world-world.result.now c.has_begun.result c.args.text.now c.push_unless.new.text (c.world-world.ensures ∙ ap (λ (p : PlacedSeen). p.world) c.self.view_is) c.has_begun.ensures c.push_unless.ensures
