use Rattle.std.proofs.Common.{◌≡◌, ◌++◌}
use Rattle.std.specs.List.{flat_map}
use Rattle.rtmfp_forms.specs.Options.{option_bytes}
use Rattle.rtmfp_forms.proofs.option_writing.append_options.Given as goal

abbrev pub invariant-loop-option : goal.invariant-loop-option
invariant-loop-option l = l.out ++ flat_map option_bytes l.option-iterator ≡ l.fn.out ++ flat_map option_bytes l.options
