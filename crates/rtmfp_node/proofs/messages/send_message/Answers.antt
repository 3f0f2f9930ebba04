use Rattle.rtmfp_node.proofs.Calling.{message_sent}
use Rattle.rtmfp_node.proofs.messages.send_message.Goals as goal

pub returns : goal.returns
returns c =
    message_sent c.args.message.now c.args.near c.args.turn c.args.end.now c.open_flow.new.end c.queue.new.end c.args.out.now.entries c.open_flow.new.out.entries c.queue.new.out.entries
    c.args.notes.now c.open_flow.new.notes c.queue.new.notes c.in_ok-open_flow.ensures c.in_ok-queue.ensures
