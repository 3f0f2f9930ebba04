use Rattle.std.proofs.Common.{◌++◌, ap, ◌∙◌, append_assoc}
use Rattle.std.specs.Prelude.{codes}
use Rattle.hex.specs.Hex.{encode_lower}
use Rattle.rtmfp_meet.specs.Nodes.{opening, print_of}
use Rattle.rtmfp_meet.proofs.child_words.opening.Goals as goal

pub returns : goal.returns
unfolding opening
returns c =
    let digits = encode_lower (print_of c.args.node) in
    c.in_ok-push_str-2.ensures.bytes
    ∙ ap (λ xs. xs ++ c.as_str.result.now) (c.in_ok-push_str.ensures.bytes ∙ ap (λ xs. xs ++ codes "@") c.in_ok-word.ensures)
    ∙ append_assoc digits (codes "@") c.as_str.result.now
    ∙ ap (λ xs. digits ++ (codes "@" ++ xs)) (c.as_str.ensures.value ∙ c.in_ok-place.ensures)
