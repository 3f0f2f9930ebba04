use Rattle.std.proofs.Common.{◌∙◌}
use Rattle.endpoint_model.specs.Event.{receive_in}
use Rattle.log_values.specs.Events.{call_of}
use Rattle.log_packets.proofs.Opens.{shown}
use Rattle.log_arrivals.specs.Calls.{given_in}
use Rattle.log_arrivals.proofs.OfCalls.{arrives_in, given_is}
use Rattle.log_arrivals.proofs.calls.arrive_call.Goals as goal

pub returns-in-Some-clause-log : goal.returns-in-Some-clause-log
returns-in-Some-clause-log c = λ setup last past nonce owns is knows are free.
    arrives_in c.args.secrets.now setup past (receive_in (call_of nonce c.args.call.now)) c.in-Some.datagram.now c.arrive.new.opener c.arrive.result
    (given_is nonce c.args.call.now ∙ shown c.datagram_of.result c.in-Some.datagram (given_in c.args.call.now) c.datagram_of.ensures c.in-Some.is)
    (c.arrive.ensures.log setup last past owns is knows are free)
