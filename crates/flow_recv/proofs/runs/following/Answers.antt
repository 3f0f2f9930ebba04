use Rattle.std.proofs.Common.{[], sym, ◌∙◌}
use Rattle.rtmfp_data_chunks.specs.Runs.{single}
use Rattle.flow_recv.proofs.Placing.{none_following, not_following}
use Rattle.flow_recv.proofs.runs.following.Goals as goal

pub returns-in_default : goal.returns-in_default
returns-in_default c = none_following (single c.args.number c.args.part []) c.args.runs.now c.requires c.in_default.ensures

pub returns : goal.returns
returns c = not_following (single c.args.number c.args.part []) c.args.runs.now c.in-Some.first c.requires c.in-Some.ensures (sym c.follows_at.ensures ∙ c.if-follows_at.false)
