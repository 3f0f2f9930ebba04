use Rattle.std.proofs.Common.{take, Some}
use Rattle.rtmfp_node.specs.Acting.{SendCalls}
use Rattle.rtmfp_node.proofs.messages.send_messages.Given as goal

abbrev pub invariant-loop-entry : goal.invariant-loop-entry
invariant-loop-entry l =
    SendCalls (Some l.fn.message) (take l.entry-index l.fn.heard) l.fn.turn l.fn.end l.end l.fn.out.entries l.out.entries l.fn.notes l.notes
