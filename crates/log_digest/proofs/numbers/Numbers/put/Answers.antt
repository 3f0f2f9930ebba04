use Rattle.std.proofs.Common.{List, ap, true, cond, ◌∙◌}
use Rattle.log_digest.specs.declared.numbers.Stamp.{Stamp}
use Rattle.log_digest.specs.Numbers.{is_same_stamp, has_stamp}
use Rattle.log_digest.proofs.numbers.Numbers.put.Goals as goal

pub returns-clause-more : goal.returns-clause-more
returns-clause-more c = record { has = λ q. c.in-Ok.ensures.updates.0 q ∙ ap (λ (stamps : List Stamp). cond (is_same_stamp c.args.stamp q) true (has_stamp stamps q)) c.self.view_is }
