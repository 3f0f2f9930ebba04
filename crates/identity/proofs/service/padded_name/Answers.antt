use Rattle.std.proofs.Common.{◌++◌, length, ap}
use Rattle.std.proofs.lemmas.List.{drop-replicate}
use Rattle.identity.proofs.service.padded_name.Goals as goal

pub returns : goal.returns
returns c =
    let zeros = ap (λ rest. c.args.bytes.now ++ rest) (drop-replicate (length c.args.bytes.now) 64 0) in
    rw c.copy_from_slice.ensures.after zeros
