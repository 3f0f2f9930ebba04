use Rattle.std.proofs.Common.{[], sym, ◌∙◌}
use Rattle.rtmfp_data_chunks.specs.Runs.{single}
use Rattle.flow_recv.proofs.Placing.{none_followed, not_followed}
use Rattle.flow_recv.proofs.runs.followed.Goals as goal

pub returns-in_default : goal.returns-in_default
returns-in_default c = none_followed (single c.args.number c.args.part []) c.args.runs.now c.requires c.in_default.ensures

pub returns : goal.returns
returns c = not_followed (single c.args.number c.args.part []) c.args.runs.now c.in-Some.first c.requires c.in-Some.ensures (sym c.is_followed_at.ensures ∙ c.if-is_followed_at.false)
