use Rattle.std.proofs.Common.{rules}
use Rattle.rtmfp_node.proofs.Calling.{none_for, sent_for}
use Rattle.rtmfp_node.proofs.messages.send_for.Goals as goal

pub returns-in-None : goal.returns-in-None
returns-in-None c =
    none_for c.args.message.now c.args.entry.now c.args.turn c.args.end.now c.args.out.now.entries c.args.notes.now (search rules)

pub returns-in_ok-send_message-in-Some : goal.returns-in_ok-send_message-in-Some
returns-in_ok-send_message-in-Some c =
    sent_for c.args.message.now c.args.entry.now c.in-Some.near c.args.turn c.args.end.now c.send_message.new.end c.args.out.now.entries c.send_message.new.out.entries c.args.notes.now
    c.send_message.new.notes (search rules) c.in_ok-send_message-in-Some.ensures
