use Rattle.std.proofs.Common.{sym, subst, ◌∙◌}
use Rattle.log_arrivals.specs.declared.arrival.Arrival.{Arrival}
use Rattle.log_arrivals.specs.Arrived.{IsArrived}
use Rattle.log_arrivals.proofs.Arriving.{arrived}
use Rattle.log_arrivals.proofs.arrived.arrive.Goals as goal

pub returns-in-Ok-clause-log : goal.returns-in-Ok-clause-log
returns-in-Ok-clause-log c = λ setup last past owns is knows are free.
    subst (λ (a : Arrival). IsArrived c.args.secrets.now setup past c.args.datagram.now c.open_in.new.opener (record { arrival = a; context = c.in-Ok.context; taking = c.of-taking.result })) (sym c.arrival_of.ensures)
    (arrived c.args.secrets.now setup past c.args.datagram.now c.open_in.new.opener c.args.own.now c.in-Some.sid c.of-taking.result c.in-Ok.context owns (sym c.sid_of.ensures ∙ c.in-Some.is)
    (c.of-taking.ensures.log c.args.secrets.now setup last past is knows are free) c.in-Ok.ensures.is)
