use Rattle.glare_core.specs.declared.facts.Fact.TheVariants.{Started, Confirmed, Ended}
use Rattle.log_values.specs.Events.{call_of}
use Rattle.log_facts.proofs.Joining.{last_with, on_fact}
use Rattle.log_facts.proofs.lines.event_line.Goals as goal

pub returns-in-Started : goal.returns-in-Started
returns-in-Started c = λ setup now past plain own is comes taken.
    on_fact c.args.secrets.now setup now (call_of c.args.nonce.now c.args.call.now) past c.args.rest.now c.args.fact.now c.args.arrival c.args.born c.args.last own
    (Started c.in-Started.peer c.in-Started.n c.in-Started.near c.in-Started.ni) c.in-Started.is c.started.result
    (λ found stands counted. c.started.ensures c.args.secrets.now setup now past plain c.in-Started.n is comes counted)

pub returns-in-Confirmed : goal.returns-in-Confirmed
returns-in-Confirmed c = λ setup now past plain own is comes taken.
    on_fact c.args.secrets.now setup now (call_of c.args.nonce.now c.args.call.now) past c.args.rest.now c.args.fact.now c.args.arrival c.args.born c.args.last own
    (Confirmed c.in-Confirmed.peer c.in-Confirmed.near) c.in-Confirmed.is c.confirmed.result
    (λ found stands counted. c.confirmed.ensures c.args.secrets.now setup past c.args.nonce.now plain c.in-Confirmed.peer comes.arrives stands found)

pub returns-in-Ended : goal.returns-in-Ended
returns-in-Ended c = λ setup now past plain own is comes taken.
    on_fact c.args.secrets.now setup now (call_of c.args.nonce.now c.args.call.now) past c.args.rest.now c.args.fact.now c.args.arrival c.args.born c.args.last own
    (Ended c.in-Ended.peer c.in-Ended.near c.in-Ended.why) c.in-Ended.is c.ended.result
    (λ found stands counted. c.ended.ensures c.args.secrets.now setup now past c.args.nonce.now plain own c.args.arrival is comes taken
    (λ idle. last_with c.args.secrets.now setup past own c.in-Ended.peer c.in-Ended.near c.in-Ended.why c.args.last stands (found idle)) stands)
