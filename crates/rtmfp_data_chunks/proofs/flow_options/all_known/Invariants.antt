use Rattle.std.proofs.Common.{◌≡◌}
use Rattle.rtmfp_data_chunks.specs.FlowOptions.{all_known}
use Rattle.rtmfp_data_chunks.proofs.flow_options.all_known.Given as goal

abbrev pub invariant-loop-option : goal.invariant-loop-option
invariant-loop-option l = all_known l.flows l.option-iterator ≡ all_known l.flows l.options
