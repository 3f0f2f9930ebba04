use Rattle.std.proofs.Common.{bit_and, bit_xor}
use Rattle.sha256_lanes.proofs.ChMaj.{ch_short}
use Rattle.sha256_lanes.proofs.OnLanes.{lane_fits, own, told, zipped}
use Rattle.sha256_lanes.proofs.lanes.ch.Goals as goal

pub returns : goal.returns
returns c =
    let x = own c.args.x c.fits-x.0 in
    let y = own c.args.y c.fits-y.0 in
    let z = own c.args.z c.fits-z.0 in
    told _ _ _ (zipped bit_xor _ _ _ _ z (zipped bit_and _ _ _ _ x (zipped bit_xor _ _ _ _ y z)))
    (λ i l. ch_short _ _ _ (lane_fits c.args.x i c.fits-x.1) (lane_fits c.args.y i c.fits-y.1) (lane_fits c.args.z i c.fits-z.1))
