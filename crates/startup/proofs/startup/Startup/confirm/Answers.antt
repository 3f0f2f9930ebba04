use Rattle.startup.specs.Rows.{state_of}
use Rattle.startup.proofs.Keeping.{after_confirm_is_sound}
use Rattle.startup.proofs.Startups.{ledger_is_kept}
use Rattle.startup.proofs.startup.Startup.confirm.Goals as goal

pub invariant_of-self : goal.invariant_of-self
invariant_of-self c =
    let i = c.self.inside in
    ledger_is_kept i.cert i.print i.cookies i.peers i.attempts.attempts i.kept.keyings c.self.invariant c.confirm.new.self
    (rw (c.confirm.ensures.ledger, c.confirm.ensures.fact) (after_confirm_is_sound (state_of i.cert i.cookies i.peers i.attempts.attempts i.kept.keyings) c.args.peer.now c.self.invariant.sound))
