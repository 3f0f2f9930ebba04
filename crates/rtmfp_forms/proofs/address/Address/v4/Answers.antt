use Rattle.std.proofs.Common.{◌≡◌, length, replicate, arith}
use Rattle.std.proofs.lemmas.List.{length-append, drop_at}
use Rattle.rtmfp_forms.proofs.address.Address.v4.Goals as goal

pub invariant_of-result : goal.invariant_of-result
invariant_of-result c =
    let front = c.copy_from_slice.new.self in
    let four : length front ≡ 4 = omega (arith, c.copy_from_slice.ensures.len) in
    record {
      origin = omega arith;
      host = omega (arith, length-append front (replicate 12 0), four);
      filled = drop_at front (replicate 12 0) 4 four;
      port = omega (arith, c.ranges.port.fits);
    }
