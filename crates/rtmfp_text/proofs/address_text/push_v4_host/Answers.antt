use Rattle.std.proofs.Common.{◌++◌, decimal, ap, ◌∙◌}
use Rattle.rtmfp_text.specs.AddressText.{v4_host_text}
use Rattle.rtmfp_text.proofs.Pushes.{push_then, push_end}
use Rattle.rtmfp_text.proofs.address_text.push_v4_host.Goals as goal

pub returns : goal.returns
unfolding v4_host_text
returns c =
    let a = c.in_ok-push_number.ensures ∙ ap (λ n. c.args.text.now ++ decimal n) c.from.ensures in
    let b = c.in_ok-push_number-2.ensures ∙ ap (λ n. c.push.new.self ++ decimal n) c.from-2.ensures in
    let d = c.in_ok-push_number-3.ensures ∙ ap (λ n. c.push-2.new.self ++ decimal n) c.from-3.ensures in
    let e = c.in_ok-push_number-4.ensures ∙ ap (λ n. c.push-3.new.self ++ decimal n) c.from-4.ensures in
    (push_then _ a (push_then _ c.in_ok-push.ensures (push_then _ b (push_then _ c.in_ok-push-2.ensures (push_then _ d (push_then _ c.in_ok-push-3.ensures (push_end _ e))))))).joined
