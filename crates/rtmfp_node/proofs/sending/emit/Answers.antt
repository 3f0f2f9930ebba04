use Rattle.std.proofs.Common.{rules, ◌++◌}
use Rattle.rtmfp_node.proofs.Sends.{counted_then, emitted, passed_then, report_cut}
use Rattle.rtmfp_node.proofs.sending.emit.Goals as goal

pub returns-in-Failed-clause-ends : goal.returns-in-Failed-clause-ends
returns-in-Failed-clause-ends g c =
    report_cut c.args.front c.args.count c.args.report.now (c.args.heard.now ++ c.args.out.now) (g.L.Link.seen c.args.link.now).line (g.K.Sink.seen c.args.sink.now).written
    (g.K.Sink.seen c.write.new.self).written c.in-Failed.ensures.bytes.0 c.in-Failed.ensures.bytes.1

pub returns-in-Done-clause-ends : goal.returns-in-Done-clause-ends
returns-in-Done-clause-ends g c =
    emitted c.send_both-served.result c.pass_on.result c.args.front c.args.count c.args.report.now (c.args.heard.now ++ c.args.out.now) (g.L.Link.seen c.args.link.now).line
    (g.L.Link.seen c.send_both-served.new.link).line (g.K.Sink.seen c.args.sink.now).written (g.K.Sink.seen c.write.new.self).written (g.K.Sink.seen c.send_both-served.new.sink)
    (g.K.Sink.seen c.pass_on.new.sink) (search rules) c.send_both-served.ensures.ends c.pass_on.ensures.text c.pass_on.ensures.ends

pub returns-in-Done-clause-sink : goal.returns-in-Done-clause-sink
returns-in-Done-clause-sink g c =
    counted_then c.send_both-served.result c.pass_on.result (g.K.Sink.seen c.args.sink.now).faults (g.K.Sink.seen c.send_both-served.new.sink) (g.K.Sink.seen c.pass_on.new.sink)
    (search rules) c.pass_on.ensures.ends

pub returns-in-Done-clause-passed : goal.returns-in-Done-clause-passed
returns-in-Done-clause-passed g c =
    passed_then c.send_both-served.result c.pass_on.result (g.K.Sink.seen c.send_both-served.new.sink) (g.K.Sink.seen c.pass_on.new.sink) c.pass_on.ensures.ends
