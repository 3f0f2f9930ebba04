use Rattle.std.proofs.Common.{◌≡◌, ◌==◌, None, rules}
use Rattle.flow_recv.specs.Receiver.{fresh}
use Rattle.flow_recv.proofs.Ready.{receiver}
use Rattle.flow_recv.proofs.Reaching.{reached_new}
use Rattle.flow_recv.proofs.receiver.FlowReceiver.new.Goals as goal

is_fresh : (c : goal.After-new-2) → receiver (c.args.first_metadata == 97) 0 c.new.result c.new-2.result None 0 ≡ fresh (c.args.first_metadata == 97)
is_fresh c = search rules

pub returns : goal.returns
returns c = is_fresh c

pub invariant_of-result : goal.invariant_of-result
invariant_of-result c =
    let reached = reached_new (receiver (c.args.first_metadata == 97) 0 c.new.result c.new-2.result None 0) (is_fresh c) in
    search (rules, reached)
