use Rattle.std.proofs.Common.{◌∙◌}
use Rattle.rtmfp_show.proofs.Lists.{span_pushed}
use Rattle.rtmfp_show.proofs.show_data.show_numbers_of_more.Goals as goal

pub loop-first-preserved : goal.loop-first-preserved
loop-first-preserved c = span_pushed _ _ _ _ _ _ (c.in-Some.first, c.in-Some.last) c.in-Some.ensures.steps c.in_ok-push.ensures c.in_ok-push_number.ensures c.in_ok-show_more_numbers.ensures ∙ c.loop-first.invariant
