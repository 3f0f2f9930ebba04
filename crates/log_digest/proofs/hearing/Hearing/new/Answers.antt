use Rattle.std.proofs.Common.{subst, sym, [], None}
use Rattle.log_digest.specs.Hearing.{IsHearingOf}
use Rattle.log_digest.proofs.Hears.{first_hearing}
use Rattle.log_digest.proofs.hearing.Hearing.new.Goals as goal

pub returns-clause-log : goal.returns-clause-log
returns-clause-log c = λ secrets context mode near. subst (IsHearingOf secrets context mode near []) (sym (λ i. record { window = c.new.ensures i; last = None })) (first_hearing secrets context mode near)
