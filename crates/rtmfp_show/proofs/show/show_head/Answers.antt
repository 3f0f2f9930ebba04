use Rattle.std.proofs.Common.{codes, decimal, ap, ◌∙◌, ◌++◌}
use Rattle.rtmfp_packet.specs.Head.{mode_number}
use Rattle.rtmfp_text.specs.Words.{bit_text, number_text}
use Rattle.rtmfp_show.specs.ShowText.{head_text}
use Rattle.rtmfp_text.proofs.Pushes.{Pushed, pushed, pushed_last}
use Rattle.rtmfp_show.proofs.show.show_head.Goals as goal

pub returns : goal.returns
unfolding head_text
returns c =
    let h = c.args.head.now in
    let a : Pushed c.args.text.now c.push.new.self (codes "packet mode=") = record { joined = c.in_ok-push.ensures } in
    let mode : Pushed c.push.new.self c.push_number.new.self (decimal (mode_number h.mode)) =
    record { joined = c.in_ok-push_number.ensures ∙ ap (λ n. c.push.new.self ++ decimal n) (c.from.ensures ∙ c.mode_number.ensures) } in
    let b : Pushed c.push_number.new.self c.push-2.new.self (codes " critical=") = record { joined = c.in_ok-push-2.ensures } in
    let critical : Pushed c.push-2.new.self c.push-3.new.self (bit_text h.critical) =
    record { joined = c.in_ok-push-3.ensures ∙ ap (λ xs. c.push-2.new.self ++ xs) c.bit_digit.ensures } in
    let d : Pushed c.push-3.new.self c.push-4.new.self (codes " reverse=") = record { joined = c.in_ok-push-4.ensures } in
    let reverse : Pushed c.push-4.new.self c.push-5.new.self (bit_text h.reverse) =
    record { joined = c.in_ok-push-5.ensures ∙ ap (λ xs. c.push-4.new.self ++ xs) c.bit_digit-2.ensures } in
    let e : Pushed c.push-5.new.self c.push-6.new.self (codes " stamp=") = record { joined = c.in_ok-push-6.ensures } in
    let stamp : Pushed c.push-6.new.self c.show_stamp.new.text (number_text h.stamp) = record { joined = c.in_ok-show_stamp.ensures } in
    let f : Pushed c.show_stamp.new.text c.push-7.new.self (codes " echo=") = record { joined = c.in_ok-push-7.ensures } in
    let echo : Pushed c.push-7.new.self c.show_stamp-2.new.text (number_text h.echo) = record { joined = c.in_ok-show_stamp-2.ensures } in
    let end : Pushed c.show_stamp-2.new.text c.push-8.new.self (codes "\n") = record { joined = c.in_ok-push-8.ensures } in
    (pushed a (pushed mode (pushed b (pushed critical (pushed d (pushed reverse (pushed e (pushed stamp (pushed f (pushed echo (pushed_last end))))))))))).joined
