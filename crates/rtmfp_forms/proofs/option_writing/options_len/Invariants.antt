use Rattle.std.proofs.Common.{◌≡◌, ◌+◌, length}
use Rattle.std.specs.List.{flat_map}
use Rattle.rtmfp_forms.specs.Options.{option_bytes, options_bytes}
use Rattle.rtmfp_forms.proofs.option_writing.options_len.Given as goal

abbrev pub invariant-loop-option : goal.invariant-loop-option
invariant-loop-option l = l.len + length (flat_map option_bytes l.option-iterator) ≡ length (options_bytes l.options)
