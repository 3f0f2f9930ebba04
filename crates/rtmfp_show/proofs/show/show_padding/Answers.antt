use Rattle.std.proofs.Common.{codes, decimal}
use Rattle.rtmfp_show.specs.ShowText.{padding_text}
use Rattle.rtmfp_text.proofs.Pushes.{Pushed, pushed, pushed_last}
use Rattle.rtmfp_show.proofs.show.show_padding.Goals as goal

pub returns : goal.returns
unfolding padding_text
returns c =
    let name : Pushed c.args.text.now c.push.new.self (codes "padding ") = record { joined = c.in_ok-push.ensures } in
    let count : Pushed c.push.new.self c.push_number.new.self (decimal c.args.count) = record { joined = c.in_ok-push_number.ensures } in
    let end : Pushed c.push_number.new.self c.push-2.new.self (codes "\n") = record { joined = c.in_ok-push-2.ensures } in
    (pushed name (pushed count (pushed_last end))).joined
