use Rattle.std.proofs.Common.{◌≡◌}
use Rattle.std.specs.Map.{values_of}
use Rattle.rtmfp_data_chunks.specs.Runs.{is_whole}
use Rattle.flow_recv.specs.Receiver.{first_of}
use Rattle.flow_recv.proofs.held.first_whole_in.Given as goal

abbrev pub invariant-loop-run : goal.invariant-loop-run
invariant-loop-run l = first_of is_whole l.run-iterator ≡ first_of is_whole (values_of l.map.entries)
