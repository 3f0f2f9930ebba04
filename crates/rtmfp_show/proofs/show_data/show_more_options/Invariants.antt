use Rattle.std.proofs.Common.{◌≡◌, ◌++◌, map}
use Rattle.rtmfp_text.specs.Words.{behind_commas}
use Rattle.rtmfp_show.specs.DataText.{option_text}
use Rattle.rtmfp_show.proofs.show_data.show_more_options.Given as goal

abbrev pub invariant-loop-option : goal.invariant-loop-option
invariant-loop-option l = l.text ++ behind_commas (map option_text l.option-iterator) ≡ l.fn.text ++ behind_commas (map option_text l.fn.options)
