use Rattle.std.proofs.Common.{◌∙◌, arith}
use Rattle.rtmfp_forms.specs.OptionReading.{option_parts}
use Rattle.rtmfp_forms.proofs.Respelling.{OptionsSpell-shortest, length-options_bytes_le, length-first, length-start}
use Rattle.rtmfp_forms.proofs.option_writing.options_len.Goals as goal

pub loop-option-init : goal.loop-option-init
loop-option-init c = length-start c.args.options.now _ (c.into_iter-option-iterator.ensures.into_iter_gives ∙ c.iter-option-items.ensures)

pub overflow_add-len : goal.overflow_add-len
overflow_add-len c =
    let fits = length-options_bytes_le c.args.options.now c.bytes-bytes.result.now c.bytes-bytes.ensures in
    let more = length-first c.loop-option.option-iterator (option_parts c.in-Some.option) c.next.new.self c.in-Some.ensures.steps in
    omega (arith, fits, more, c.loop-option.invariant, c.option_len-len.ensures)

pub returns-clause-fits : goal.returns-clause-fits
returns-clause-fits c =
    let fits = length-options_bytes_le c.args.options.now c.bytes-bytes.result.now c.bytes-bytes.ensures in
    omega (arith, fits, c.loop-option.invariant)

pub returns-clause-spells : goal.returns-clause-spells
returns-clause-spells c = OptionsSpell-shortest c.args.options.now c.bytes-bytes.result.now c.bytes-bytes.ensures
