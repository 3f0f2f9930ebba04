use Rattle.std.proofs.Common.{◌∙◌}
use Rattle.rtmfp_meet.proofs.Stepping.{has_begun, no_words, start_failed, start_without_memory}
use Rattle.rtmfp_meet.proofs.steps.start.Goals as goal

pub returns-in_default : goal.returns-in_default
returns-in_default g c = no_words c.args.meet.port c.args.meet.turns c.args.node _ c.requires

pub returns-in-Child : goal.returns-in-Child
returns-in-Child g c =
    has_begun c.args.meet.port c.args.meet.turns c.args.node c.in-Child.child _ _ _ c.requires (c.words-2.ensures ∙ c.in-Ok.ensures) c.in-Child.ensures.call c.in-Child.ensures.status c.in-Child.ensures.faults

pub returns-in-Failed : goal.returns-in-Failed
returns-in-Failed g c =
    start_failed c.args.meet.port c.args.meet.turns c.args.node _ _ _ c.requires (c.words-2.ensures ∙ c.in-Ok.ensures) c.in-Failed.ensures.call c.in-Failed.ensures.status c.in-Failed.ensures.faults

pub returns : goal.returns
returns g c =
    start_without_memory c.args.meet.port c.args.meet.turns c.args.node _ _ _ c.requires (c.words-2.ensures ∙ c.in-Ok.ensures) c.in-Memory.ensures.call c.in-Memory.ensures.status c.in-Memory.ensures.faults
