use Rattle.std.proofs.Common.{◌≡◌, ◌<◌, ◌+◌, ◌∷◌, List, false, length, take, [], arith, ap, sym, ◌∙◌}
use Rattle.std.proofs.lemmas.Grind.{common_steps}
use Rattle.std.specs.List.{fold}
use Rattle.rtmfp_forms.specs.Address.{AddressParts}
use Rattle.startup.specs.Redirects.{joined_beside, new_candidates}
use Rattle.startup.proofs.Redirected.{beside_grows}
use Rattle.startup.proofs.candidates.new_among.Goals as goal

pub returns-then-not-join_beside-clause-none : goal.returns-then-not-join_beside-clause-none
returns-then-not-join_beside-clause-none c =
    let refused : c.join_beside.result ≡ false = grind (arith, common_steps, c.if-not-join_beside.true) in
    let many : 16 < length c.args.held.now + length (joined_beside c.args.held.now [] c.args.first.now) = c.join_beside.ensures.many refused in
    omega (arith, many, beside_grows c.args.held.now (joined_beside c.args.held.now [] c.args.first.now) c.args.others)

pub returns-then-not-join_beside-2-clause-none : goal.returns-then-not-join_beside-2-clause-none
returns-then-not-join_beside-2-clause-none c =
    let held : List AddressParts = c.args.held.now in
    let found : List AddressParts = take c.loop-address.new.count c.loop-address.new.to in
    let refused : c.join_beside-in-loop-address.result ≡ false = grind (arith, common_steps, c.if-not-join_beside-2.true) in
    let many : 16 < length held + length (joined_beside held found c.in-Some.address) = c.join_beside-in-loop-address.ensures.many refused in
    let all : fold (joined_beside held) (joined_beside held found c.in-Some.address) c.next.new.self ≡ new_candidates held (c.args.first.now ∷ c.args.others) =
    ap (fold (joined_beside held) found) (sym c.in-Some.ensures.steps) ∙ c.loop-address.invariant.rest in
    omega (arith, many, beside_grows held (joined_beside held found c.in-Some.address) c.next.new.self, ap length all)
