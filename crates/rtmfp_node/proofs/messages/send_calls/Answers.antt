use Rattle.std.proofs.Common.{rules}
use Rattle.rtmfp_node.proofs.Calling.{no_message, of_bytes}
use Rattle.rtmfp_node.proofs.messages.send_calls.Goals as goal

pub returns-in-None : goal.returns-in-None
returns-in-None c = no_message c.args.message.now c.args.heard.now c.args.turn c.args.end.now c.args.out.now.entries c.args.notes.now (search rules)

pub returns-in_ok-send_messages-in-Some : goal.returns-in_ok-send_messages-in-Some
returns-in_ok-send_messages-in-Some c =
    of_bytes c.args.message.now c.in-Some.message c.bytes.result.now c.args.heard.now c.args.turn c.args.end.now c.send_messages.new.end c.args.out.now.entries c.send_messages.new.out.entries
    c.args.notes.now c.send_messages.new.notes (search rules) (search rules) c.in_ok-send_messages-in-Some.ensures
