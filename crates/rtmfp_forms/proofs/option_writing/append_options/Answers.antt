use Rattle.std.proofs.Common.{length, ap, arith}
use Rattle.std.specs.List.{flat_map}
use Rattle.std.proofs.lemmas.List.{length-append}
use Rattle.rtmfp_forms.specs.Options.{option_bytes}
use Rattle.rtmfp_forms.specs.OptionReading.{option_parts}
use Rattle.rtmfp_forms.proofs.Respelling.{length-options_bytes, length-first}
use Rattle.rtmfp_forms.proofs.option_writing.append_options.Goals as goal

pub append_option-requires : goal.append_option-requires
append_option-requires c =
    let more = length-first c.loop-option.option-iterator (option_parts c.in-Some.option) c.next.new.self c.in-Some.ensures.steps in
    let whole = ap length c.loop-option.invariant in
    omega (arith, more, whole, c.requires, length-options_bytes c.args.options.now, length-append c.loop-option.out (flat_map option_bytes c.loop-option.option-iterator), length-append c.args.out.now (flat_map option_bytes c.args.options.now))
