use Rattle.std.proofs.Common.{◌≡◌}
use Rattle.rtmfp_data_chunks.specs.FlowOptions.{metadata_in}
use Rattle.rtmfp_data_chunks.proofs.flow_options.metadata_in.Given as goal

abbrev pub invariant-loop-option : goal.invariant-loop-option
invariant-loop-option l = metadata_in l.option-iterator ≡ metadata_in l.options
