use Rattle.std.proofs.Common.{rules}
use Rattle.rtmfp_node.proofs.Sends.{counted_next, sent_next, stopped_next}
use Rattle.rtmfp_node.proofs.sending.send_all.Goals as goal

pub loop-entry-preserved : goal.loop-entry-preserved
loop-entry-preserved g c = record {
  sent =
      sent_next c.send_one-served.result c.args.front c.args.number.now c.loop-entry.number c.args.entries.now c.loop-entry.entry-index c.entry-item.result (g.L.Link.seen c.args.link.now).line
      (g.L.Link.seen c.loop-entry.link).line (g.L.Link.seen c.send_one-served.new.link).line (g.K.Sink.seen c.args.sink.now).written (g.K.Sink.seen c.loop-entry.sink).written
      (g.K.Sink.seen c.send_one-served.new.sink).written (search rules) (search rules) c.loop-entry.invariant.number (search rules) c.loop-entry.invariant.sent c.send_one-served.ensures.ends;
  number =
      counted_next c.args.number.now c.loop-entry.number c.send_one-served.new.number c.args.entries.now c.loop-entry.entry-index c.entry-item.result (search rules) (search rules)
      c.loop-entry.invariant.number (search rules);
  link = search rules;
  sink = search rules;
}

pub returns-then-not-is_done-clause-ends : goal.returns-then-not-is_done-clause-ends
returns-then-not-is_done-clause-ends g c =
    stopped_next c.send_one-served.result c.args.front c.args.number.now c.loop-entry.number c.args.entries.now c.loop-entry.entry-index c.entry-item.result (g.L.Link.seen c.args.link.now).line
    (g.L.Link.seen c.loop-entry.link).line (g.L.Link.seen c.send_one-served.new.link).line (g.K.Sink.seen c.args.sink.now).written (g.K.Sink.seen c.loop-entry.sink).written
    (g.K.Sink.seen c.send_one-served.new.sink).written (search rules) (search rules) c.loop-entry.invariant.number (search rules) c.loop-entry.invariant.sent c.send_one-served.ensures.ends
