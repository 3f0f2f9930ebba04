use Rattle.std.proofs.Common.{◌≡◌, ◌++◌, ap, ◌∙◌}
use Rattle.std.proofs.Common.{w32}
use Rattle.std.proofs.lemmas.Int.{to_z-of_z}
use Rattle.std.specs.Fmt.{signed_decimal}
use Rattle.rtmfp_lines.specs.Status.{ended}
use Rattle.rtmfp_text.proofs.Pushes.{push_then, push_end}
use Rattle.rtmfp_lines.proofs.status.push_ended.Goals as goal

pub returns : goal.returns
unfolding ended
returns c =
    let digits : c.format.result.now ≡ signed_decimal c.args.status = c.format.ensures.text ∙ ap signed_decimal (to_z-of_z w32 c.args.status c.ranges.status) in
    let pushed : c.push-2.new.self ≡ c.push.new.self ++ signed_decimal c.args.status = c.in_ok-push-2.ensures ∙ ap (λ xs. c.push.new.self ++ xs) digits in
    (push_then _ c.in_ok-push.ensures (push_then _ pushed (push_end _ c.in_ok-push-3.ensures))).joined
