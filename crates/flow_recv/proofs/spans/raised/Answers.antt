use Rattle.std.proofs.Common.{◌≡◌, ◌+◌, ℕ, max, ap, sym, ◌∙◌, arith}
use Rattle.flow_recv.specs.Above.{last_from}
use Rattle.flow_recv.specs.Receiver.{end_of_first}
use Rattle.flow_recv.proofs.Spots.{raised_some, raised_none, from_first}
use Rattle.flow_recv.proofs.spans.raised.Goals as goal

pub returns-in-Some : goal.returns-in-Some
returns-in-Some c =
    let ss = c.args.above.now in
    let end : ℕ = max c.args.through c.args.to in
    let at : c.from.result + 1 ≡ end + 1 = omega (arith, c.from.ensures, c.max-end.ensures) in
    let found = ap (λ (n : ℕ). last_from n ss) (sym at) ∙ sym c.in-Some.ensures in
    let m : c.max.result ≡ max end c.in-Some.here.last = omega (arith, c.max.ensures, c.max-end.ensures) in
    m ∙ (sym (raised_some end ss c.in-Some.here c.requires found) ∙ ap end_of_first (sym (from_first c.args.through c.args.to ss)))

pub returns-in-None : goal.returns-in-None
returns-in-None c =
    let ss = c.args.above.now in
    let end : ℕ = max c.args.through c.args.to in
    let at : c.from.result + 1 ≡ end + 1 = omega (arith, c.from.ensures, c.max-end.ensures) in
    let found = ap (λ (n : ℕ). last_from n ss) (sym at) ∙ sym c.in-None.ensures in
    c.max-end.ensures ∙ (sym (raised_none end ss found) ∙ ap end_of_first (sym (from_first c.args.through c.args.to ss)))
