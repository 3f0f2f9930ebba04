use Rattle.std.proofs.Common.{◌++◌, ap, ◌∙◌, codes}
use Rattle.rtmfp_text.specs.Words.{number_field_text}
use Rattle.rtmfp_report.specs.FactText.{joined_text}
use Rattle.rtmfp_text.proofs.Pushes.{push_then, push_end}
use Rattle.rtmfp_report.proofs.facts.push_joined.Goals as goal

pub returns : goal.returns
unfolding joined_text
returns c =
    let near = c.in_ok-push_number_field-2.ensures ∙ ap (λ n. c.push_number_field.new.self ++ number_field_text (codes " near=") n) c.from.ensures in
    let far = c.in_ok-push_number_field-3.ensures ∙ ap (λ n. c.push_number_field-2.new.self ++ number_field_text (codes " far=") n) c.from-2.ensures in
    (push_then _ c.in_ok-push.ensures (push_then _ c.in_ok-push_peer.ensures (push_then _ c.in_ok-push_number_field.ensures
    (push_then _ near (push_then _ far (push_then _ c.in_ok-push-2.ensures (push_then _ c.in_ok-push_nonce.ensures
    (push_then _ c.in_ok-push-3.ensures (push_then _ c.in_ok-push_nonce-2.ensures (push_end _ c.in_ok-push_number_field-4.ensures)))))))))).joined
