use Rattle.std.proofs.Common.{length}
use Rattle.rtmfp_vlu.proofs.Shortest.{Needs-highest_bit, Needs-shortest, same_need, length-vlu}
use Rattle.rtmfp_vlu.proofs.writing.vlu_len.Goals as goal

pub returns-clause-shortest : goal.returns-clause-shortest
returns-clause-shortest c s h =
    same_need c.args.value _ (length s) (Needs-highest_bit c.args.value c.max.result c.ilog2.result c.max.ensures c.ilog2.ensures.power_le c.ilog2.ensures.next_power_gt) (Needs-shortest c.args.value s h)

pub returns-clause-length : goal.returns-clause-length
returns-clause-length c =
    length-vlu c.args.value _ c.ranges.value.fits (Needs-highest_bit c.args.value c.max.result c.ilog2.result c.max.ensures c.ilog2.ensures.power_le c.ilog2.ensures.next_power_gt)
