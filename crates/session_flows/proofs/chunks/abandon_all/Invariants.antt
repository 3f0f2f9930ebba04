use Rattle.std.proofs.Common.{◌≡◌, ◌≤◌, ◌+◌, ◌++◌, length, vec_len, vec_capacity}
use Rattle.flow_send.specs.Flow.{with_sender}
use Rattle.session_flows.specs.Chunks.{without_messages, numbers_of}
use Rattle.session_flows.proofs.chunks.abandon_all.Given as goal

abbrev pub invariant-loop-number : goal.invariant-loop-number
invariant-loop-number l = record {
  sender : with_sender l.sender (without_messages l.sender.sender) ≡ with_sender l.fn.sender (without_messages l.fn.sender.sender);
  numbers : l.abandoned.items ++ numbers_of l.sender.sender.waiting ≡ l.fn.abandoned.items ++ numbers_of l.fn.sender.sender.waiting;
  room : vec_len l.abandoned + length l.sender.sender.waiting ≤ vec_capacity l.abandoned;
}

abbrev pub decreases-loop-number : goal.decreases-loop-number
decreases-loop-number l = length l.sender.sender.waiting
