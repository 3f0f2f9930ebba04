use Rattle.std.proofs.Common.{ℕ, List, ◌++◌, sym, ap, ◌∙◌, map, decimal}
use Rattle.std.specs.List.{flat_map}
use Rattle.rtmfp_text.specs.Words.{list_text}
use Rattle.rtmfp_show.specs.DataText.{numbers_of}
use Rattle.rtmfp_show.proofs.Lists.{each_pushed}
use Rattle.rtmfp_show.proofs.show_data.show_each_number.Goals as goal

pub returns : goal.returns
returns c =
    each_pushed _ _ _ _ (c.in-Some.first, c.in-Some.last) _ c.in_ok-push_number.ensures c.in_ok-show_more_numbers.ensures c.in_ok-show_numbers_of_more.ensures
    ∙ ap (λ (ss : List (ℕ × ℕ)). c.args.text.now ++ list_text (map decimal (flat_map numbers_of ss))) (sym c.in-Some.ensures.steps)
