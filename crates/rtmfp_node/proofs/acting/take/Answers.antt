use Rattle.std.proofs.Common.{rules}
use Rattle.rtmfp_node.proofs.Calling.{acted_datagram, all_added, of_entries}
use Rattle.rtmfp_node.proofs.acting.take.Goals as goal

pub returns : goal.returns
returns c =
    let heard = c.receive.new.out.entries in
    acted_datagram c.args.message.now c.args.from c.args.datagram.now c.args.moment c.args.draws.now c.args.turn c.args.end.now c.receive.new.end c.send_calls.new.end c.tick.new.end
    c.args.heard.now.entries heard c.args.out.now.entries c.send_calls.new.out.entries c.tick.new.out.entries _ _ c.args.notes.now c.receive.new.notes c.send_calls.new.notes c.tick.new.notes
    c.requires.unheard c.requires.empty c.in_ok-receive.ensures (all_added c.args.heard.now.entries heard c.requires.unheard)
    (of_entries c.args.message.now c.entries.result.now heard c.args.turn c.receive.new.end c.send_calls.new.end c.args.out.now.entries c.send_calls.new.out.entries c.receive.new.notes
    c.send_calls.new.notes (search rules) c.in_ok-send_calls.ensures)
    c.in_ok-tick.ensures
