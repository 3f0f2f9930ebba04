use Rattle.std.proofs.Common.{ℕ, List, ◌++◌, ap, ◌∙◌, map}
use Rattle.rtmfp_text.specs.Words.{list_text}
use Rattle.rtmfp_show.specs.DataText.{data_text, span_text}
use Rattle.rtmfp_text.proofs.Pushes.{push_then, push_end}
use Rattle.rtmfp_show.proofs.show_data.show_ack_ranges.Goals as goal

pub returns : goal.returns
unfolding data_text
returns c =
    let also = c.in_ok-show_spans.ensures ∙ ap (λ (ss : List (ℕ × ℕ)). c.show_ack.new.text ++ list_text (map span_text ss)) c.of_pairs.ensures in
    (push_then _ c.in_ok-show_ack.ensures (push_end _ also)).joined
