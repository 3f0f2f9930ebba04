use Rattle.std.proofs.Common.{rules}
use Rattle.rtmfp_node.proofs.Told.{drew_failed}
use Rattle.rtmfp_node.proofs.draw.draw.Goals as goal

pub returns-in-Done-clause-failed : goal.returns-in-Done-clause-failed
returns-in-Done-clause-failed g c = search rules

pub returns-in-Failed-clause-undrawn : goal.returns-in-Failed-clause-undrawn
returns-in-Failed-clause-undrawn g c =
    λ none. drew_failed (g.E.Entropy.seen c.args.entropy.now).blocks (g.E.Entropy.seen c.draw.new.self).blocks c.draw.new.out c.in-Failed.ensures.block
