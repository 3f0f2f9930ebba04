use Rattle.log_arrivals.proofs.Honesty.{honest_somewhere, honest_nowhere}
use Rattle.log_arrivals.proofs.honest.is_honest.Goals as goal

pub returns-in-Some : goal.returns-in-Some
returns-in-Some c = λ secrets setup past plain earlier r same is sent.
    honest_somewhere secrets setup past earlier r c.args.datagram.now c.args.arrived.now.context c.in-Some.context c.has.result same is.context c.in-Some.is
    (c.has.ensures.yes earlier sent) (c.has.ensures.no earlier sent)

pub returns-in-None : goal.returns-in-None
returns-in-None c = λ secrets setup past plain earlier r same is sent.
    honest_nowhere secrets setup past earlier r c.args.datagram.now c.args.arrived.now.context same is.context c.in-None.is
