use Rattle.std.proofs.Common.{sym, ap, ◌∙◌, arith}
use Rattle.rendezvous_world.specs.declared.end.End.{End}
use Rattle.rendezvous_world.specs.Inside.{end_seen}
use Rattle.rendezvous_world.proofs.Ends.{setup_there}
use Rattle.rendezvous_world.proofs.beginning.beginning_at.Goals as goal

pub returns-clause-given : goal.returns-clause-given
returns-clause-given c =
    let it = c.index-ends-end.result in
    let secret = c.counted_secret.ensures in
    let cookies = c.print.ensures in
    (λ i. record { config = it.config; cert = it.cert; generation = 0; secret = secret i; cookie_secret = cookies i })
    ∙ ap (λ (end : End). (end_seen end).setup) c.index-ends-end.is
    ∙ sym (setup_there c.args.ends.now c.args.end it (omega (arith, c.if-end-ends.false)))
