use Rattle.std.proofs.Common.{◌≡◌, ◌<◌, length, arith}
use Rattle.rtmfp_chunks.proofs.AddressLists.{walked_on, walked_end, walked_fault}
use Rattle.rtmfp_chunks.proofs.fields.addresses.Goals as goal

pub loop-rest-smaller : goal.loop-rest-smaller
loop-rest-smaller c = (walked_on c.args.bytes.now c.loop-rest.rest.now _ _ (λ i. omega (arith, c.type_inv.bytes i)) c.loop-rest.invariant c.in-Ok.ensures).1

pub loop-rest-preserved : goal.loop-rest-preserved
loop-rest-preserved c = (walked_on c.args.bytes.now c.loop-rest.rest.now _ _ (λ i. omega (arith, c.type_inv.bytes i)) c.loop-rest.invariant c.in-Ok.ensures).0

pub returns-in-Err : goal.returns-in-Err
returns-in-Err c =
    let some : 0 < length c.loop-rest.rest.now = grind arith in
    walked_fault c.args.bytes.now c.loop-rest.rest.now c.in-Err.left (λ i. omega (arith, c.type_inv.bytes i)) c.loop-rest.invariant some c.in-Err.ensures

pub returns : goal.returns
returns c =
    let none : length c.loop-rest.rest.now ≡ 0 = grind arith in
    walked_end c.args.bytes.now c.loop-rest.rest.now c.loop-rest.invariant none
