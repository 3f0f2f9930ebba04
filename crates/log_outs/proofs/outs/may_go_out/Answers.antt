use Rattle.std.proofs.Common.{sym, ◌∙◌}
use Rattle.log_outs.proofs.Chunks.{all_may}
use Rattle.log_outs.proofs.outs.may_go_out.Goals as goal

pub returns : goal.returns
returns c =
    all_may c.args.sender.now c.args.why.now c.args.opener.now c.args.context.now c.args.number.now c.args.sid c.plain_may.result
    (sym c.is_new.ensures ∙ c.if-not-is_new.false) (sym c.is_in_session.ensures.value ∙ c.if-not-is_in_session.false) c.plain_may.ensures
