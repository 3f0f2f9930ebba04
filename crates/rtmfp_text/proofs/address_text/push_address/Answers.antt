use Rattle.std.proofs.Common.{◌++◌, decimal, ap, ◌∙◌}
use Rattle.rtmfp_forms.specs.Address.{AddressParts}
use Rattle.rtmfp_text.specs.AddressText.{address_text}
use Rattle.rtmfp_text.proofs.Pushes.{push_then, push_end}
use Rattle.rtmfp_text.proofs.address_text.push_address.Goals as goal

pub returns : goal.returns
unfolding address_text
returns c =
    let port = c.in_ok-push_number.ensures ∙ ap (λ n. c.push.new.self ++ decimal n) (c.from.ensures ∙ ap (λ (a : AddressParts). a.port) c.address.view_is) in
    (push_then _ c.in_ok-push_host.ensures (push_then _ c.in_ok-push.ensures (push_end _ port))).joined
