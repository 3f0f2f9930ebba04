use Rattle.std.proofs.Common.{subst, sym}
use Rattle.endpoint_laws.specs.Past.{with_entry}
use Rattle.log_digest.specs.Digest.{IsDigestOf}
use Rattle.log_digest.proofs.Digesting.{digest_added}
use Rattle.log_digest.proofs.digest.Digest.add.Goals as goal

pub returns-in-Ok-clause-log : goal.returns-in-Ok-clause-log
returns-in-Ok-clause-log c = λ own last past is may.
    subst (IsDigestOf last (with_entry last c.args.entry.now past)) (sym c.in-Ok.ensures.ok) (digest_added own last past c.args.self.now is c.args.entry.now may)
