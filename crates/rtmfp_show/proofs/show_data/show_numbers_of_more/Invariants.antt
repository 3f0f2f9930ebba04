use Rattle.std.proofs.Common.{◌≡◌, ◌++◌}
use Rattle.rtmfp_show.proofs.Lists.{numbers_in}
use Rattle.rtmfp_show.proofs.show_data.show_numbers_of_more.Given as goal

abbrev pub invariant-loop-first : goal.invariant-loop-first
invariant-loop-first l = l.text ++ numbers_in l.first-iterator ≡ l.fn.text ++ numbers_in l.fn.spans
