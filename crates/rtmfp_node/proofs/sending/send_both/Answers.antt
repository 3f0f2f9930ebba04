use Rattle.std.proofs.Common.{rules}
use Rattle.rtmfp_node.proofs.Sends.{both_sent, ends_wider}
use Rattle.rtmfp_node.proofs.sending.send_both.Goals as goal

pub returns-clause-ends : goal.returns-clause-ends
returns-clause-ends g c =
    both_sent c.send_all-served.result c.send_all.result c.args.front c.args.count c.send_all-served.new.number c.args.heard.now c.args.out.now (g.L.Link.seen c.args.link.now).line
    (g.L.Link.seen c.send_all-served.new.link).line (g.L.Link.seen c.send_all.new.link).line (g.K.Sink.seen c.args.sink.now).written (g.K.Sink.seen c.send_all-served.new.sink).written
    (g.K.Sink.seen c.send_all.new.sink).written (search rules) c.send_all-served.ensures.ends (search rules) c.send_all.ensures.ends

pub returns-then-not-is_done-clause-ends : goal.returns-then-not-is_done-clause-ends
returns-then-not-is_done-clause-ends g c =
    ends_wider c.send_all-served.result c.args.front c.args.count c.args.heard.now c.args.out.now (g.L.Link.seen c.args.link.now).line (g.L.Link.seen c.send_all-served.new.link).line
    (g.K.Sink.seen c.args.sink.now).written (g.K.Sink.seen c.send_all-served.new.sink).written (search rules) c.send_all-served.ensures.ends
