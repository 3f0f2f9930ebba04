use Rattle.std.proofs.Common.{◌++◌, ap, ◌∙◌}
use Rattle.std.specs.Prelude.{codes}
use Rattle.rtmfp_meet.specs.Nodes.{place}
use Rattle.rtmfp_meet.proofs.child_words.place.Goals as goal

pub returns : goal.returns
unfolding place
returns c = c.in_ok-push_str.ensures.bytes ∙ ap (λ xs. xs ++ c.format.result.now) c.in_ok-word.ensures.ok ∙ ap (λ xs. codes "127.0.0.1:" ++ xs) c.format.ensures.text
