use Rattle.rtmfp_text.specs.AddressText.{v6_host_text}
use Rattle.rtmfp_text.proofs.Pushes.{push_then, push_end}
use Rattle.rtmfp_text.proofs.address_text.push_v6_host.Goals as goal

pub returns : goal.returns
unfolding v6_host_text
returns c = (push_then _ c.in_ok-push.ensures (push_then _ c.in_ok-push_hex.ensures (push_end _ c.in_ok-push-2.ensures))).joined
