use Rattle.std.proofs.Common.{rules, ◌+◌, ◌≡◌, subst}
use Rattle.rtmfp_host.specs.Linking.{is_done}
use Rattle.rtmfp_node.specs.Report.{unsent_line}
use Rattle.rtmfp_node.specs.Acting.{LostEnds}
use Rattle.rtmfp_node.proofs.Sends.{appends_none, send_done, send_lost, send_some}
use Rattle.rtmfp_node.proofs.sending.send.Goals as goal

pub returns-in-Done-clause-ends : goal.returns-in-Done-clause-ends
returns-in-Done-clause-ends g c context =
    send_done c.args.front c.args.number.now c.args.to.now c.args.datagram.now context (g.L.Link.seen c.args.link.now).line (g.L.Link.seen c.send-sent.new.self).line
    (g.K.Sink.seen c.args.sink.now).written (search rules)

pub returns-in-Failed-clause-ends : goal.returns-in-Failed-clause-ends
returns-in-Failed-clause-ends g c context =
    let next : c.in-Some.next ≡ c.args.number.now + 1 = search rules in
    send_lost c.tell_lost.result c.args.front c.args.number.now c.args.to.now c.args.datagram.now context (g.L.Link.seen c.args.link.now).line (g.L.Link.seen c.send-sent.new.self).line
    (g.K.Sink.seen c.args.sink.now).written (g.K.Sink.seen c.tell_lost.new.sink).written (search rules)
    (subst (λ k. LostEnds c.tell_lost.result (unsent_line c.args.front k) (g.K.Sink.seen c.args.sink.now).written (g.K.Sink.seen c.tell_lost.new.sink).written) next c.tell_lost.ensures.ends)

pub returns-in_default-clause-ends : goal.returns-in_default-clause-ends
returns-in_default-clause-ends g c context =
    send_some c.args.front c.args.number.now c.args.to.now c.args.datagram.now context (is_done c.send-sent.result) (g.L.Link.seen c.args.link.now).line
    (g.L.Link.seen c.send-sent.new.self).line (g.K.Sink.seen c.args.sink.now).written (g.K.Sink.seen c.args.sink.now).written 0 c.send-sent.ensures.call
    (appends_none (g.K.Sink.seen c.args.sink.now).written)
