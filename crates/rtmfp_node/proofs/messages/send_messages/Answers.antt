use Rattle.std.proofs.Common.{rules}
use Rattle.rtmfp_node.proofs.Calling.{calls_next, calls_none}
use Rattle.rtmfp_node.proofs.messages.send_messages.Goals as goal

pub loop-entry-init : goal.loop-entry-init
loop-entry-init c = calls_none c.args.message.now c.args.turn c.args.end.now c.args.out.now.entries c.args.notes.now

pub loop-entry-preserved : goal.loop-entry-preserved
loop-entry-preserved c =
    calls_next c.args.message.now c.args.heard.now c.loop-entry.entry-index c.entry-item.result c.args.turn c.args.end.now c.loop-entry.end c.send_for.new.end c.args.out.now.entries
    c.loop-entry.out.entries c.send_for.new.out.entries c.args.notes.now c.loop-entry.notes c.send_for.new.notes (search rules) (search rules) c.loop-entry.invariant c.in_ok-send_for.ensures
