use Rattle.log_values.specs.Events.{call_of}
use Rattle.log_facts.proofs.Joining.{whole_line}
use Rattle.log_facts.proofs.lines.fact_line.Goals as goal

pub returns : goal.returns
returns c = λ setup now past plain own_is is comes taken found.
    let stands = c.stands.ensures.yes now past is c.if-not-stands.false in
    whole_line c.args.secrets.now setup now (call_of c.args.nonce.now c.args.call.now) past c.args.rest.now c.args.fact.now c.args.own.now own_is stands c.stands.ensures.counted c.event_line.result
    (c.event_line.ensures setup now past plain c.args.own.now is comes taken found stands c.stands.ensures.counted)
