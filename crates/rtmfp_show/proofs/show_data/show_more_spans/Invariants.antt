use Rattle.std.proofs.Common.{◌≡◌, ◌++◌, map}
use Rattle.rtmfp_text.specs.Words.{behind_commas}
use Rattle.rtmfp_show.specs.DataText.{span_text}
use Rattle.rtmfp_show.proofs.show_data.show_more_spans.Given as goal

abbrev pub invariant-loop-span : goal.invariant-loop-span
invariant-loop-span l = l.text ++ behind_commas (map span_text l.span-iterator) ≡ l.fn.text ++ behind_commas (map span_text l.fn.spans)
