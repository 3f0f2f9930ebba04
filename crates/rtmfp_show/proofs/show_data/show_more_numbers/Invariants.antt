use Rattle.std.proofs.Common.{◌≡◌, ◌++◌, ◌-◌}
use Rattle.rtmfp_show.proofs.Lists.{numbers_above}
use Rattle.rtmfp_show.proofs.show_data.show_more_numbers.Given as goal

abbrev pub invariant-loop-shown : goal.invariant-loop-shown
invariant-loop-shown l = l.text ++ numbers_above l.shown l.last ≡ l.fn.text ++ numbers_above l.fn.above l.last

abbrev pub decreases-loop-shown : goal.decreases-loop-shown
decreases-loop-shown l = l.last - l.shown
