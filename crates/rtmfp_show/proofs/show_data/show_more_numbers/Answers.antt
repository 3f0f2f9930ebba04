use Rattle.std.proofs.Common.{◌∙◌, arith}
use Rattle.rtmfp_show.proofs.Lists.{number_pushed}
use Rattle.rtmfp_show.proofs.show_data.show_more_numbers.Goals as goal

pub loop-shown-preserved : goal.loop-shown-preserved
loop-shown-preserved c = number_pushed _ _ _ c.loop-shown.shown _ c.args.last c.loop-shown-test.true (omega arith) c.in_ok-push.ensures c.in_ok-push_number.ensures ∙ c.loop-shown.invariant
