use Rattle.std.proofs.Common.{subst, sym, None}
use Rattle.endpoint_laws.specs.Past.{nothing_done}
use Rattle.log_digest.specs.Digest.{IsDigestOf}
use Rattle.log_digest.proofs.Digesting.{digest_first}
use Rattle.log_digest.proofs.digest.Digest.new.Goals as goal

pub returns-clause-log : goal.returns-clause-log
returns-clause-log c = subst (IsDigestOf 0 nothing_done) (sym (λ i. record { moment = 0; drawn = None; roll = c.new.ensures.value i; spots = c.new-2.ensures i })) digest_first
