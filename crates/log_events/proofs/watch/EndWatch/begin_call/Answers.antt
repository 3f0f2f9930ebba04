use Rattle.endpoint_model.specs.Event.{moment_at}
use Rattle.log_values.specs.Events.{call_of}
use Rattle.log_events.proofs.Beginning.{begun_beside, begun_in, none_in, told}
use Rattle.log_events.proofs.watch.EndWatch.begin_call.Goals as goal

pub returns-in-Some : goal.returns-in-Some
returns-in-Some c = λ secrets setup last past e is at moment gone found.
    let call = call_of c.args.nonce.now c.args.call.now in
    let given = c.in-Some.ensures.some secrets setup past c.args.nonce.now found in
    let t = told secrets setup last (moment_at last e) past c.args.self.now c.begin_in.new.self e call is at c.args.opener.now c.args.arrived.now found c.in-Some.given gone given in
    begun_in secrets setup last (moment_at last e) past c.args.self.now c.begin_in.new.self e call is at c.args.opener.now c.args.arrived.now found c.in-Some.given gone given c.begin_in.result
    (c.begin_in.ensures.log secrets setup last past e t.datagram is moment t.holds t.there) (c.begin_in.ensures.hears secrets setup last past e t.datagram is moment t.holds t.there)

pub returns-in-None : goal.returns-in-None
returns-in-None c = λ secrets setup last past e is at moment gone found.
    let call = call_of c.args.nonce.now c.args.call.now in
    let none = c.in-None.ensures.none secrets setup past c.args.nonce.now found in
    begun_beside secrets setup last (moment_at last e) past c.args.self.now c.begin.new.self e call is at c.args.opener.now c.args.arrived.now found none
    (c.begin.ensures secrets setup last past e is at moment (none_in secrets setup last (moment_at last e) past c.args.self.now c.begin.new.self e call is at c.args.opener.now c.args.arrived.now found none))
