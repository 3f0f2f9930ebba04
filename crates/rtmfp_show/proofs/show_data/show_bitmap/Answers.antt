use Rattle.std.proofs.Common.{ℕ, List, ◌++◌, ap, ◌∙◌, map, decimal}
use Rattle.std.specs.List.{flat_map}
use Rattle.rtmfp_text.specs.Words.{list_text}
use Rattle.rtmfp_show.specs.DataText.{data_text, numbers_of}
use Rattle.rtmfp_text.proofs.Pushes.{push_then, push_end}
use Rattle.rtmfp_show.proofs.show_data.show_bitmap.Goals as goal

pub returns : goal.returns
unfolding data_text
returns c =
    let also = c.in_ok-show_each_number.ensures ∙ ap (λ (ss : List (ℕ × ℕ)). c.show_ack.new.text ++ list_text (map decimal (flat_map numbers_of ss))) c.of_bits.ensures in
    (push_then _ c.in_ok-show_ack.ensures (push_end _ also)).joined
