use Rattle.log_digest.proofs.Once.{one_more_nonce}
use Rattle.log_digest.proofs.nonces.Nonces.add.Goals as goal

pub returns-clause-nonces : goal.returns-clause-nonces
returns-clause-nonces c = λ nonces are. one_more_nonce nonces c.args.nonce.now c.args.self.now c.put.new.self are c.in_ok-put.ensures.more
