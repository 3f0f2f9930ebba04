use Rattle.std.proofs.Common.{◌/◌, arith}
use Rattle.rtmfp_data_chunks.proofs.Ahead.{set_behind, set_ends}
use Rattle.rtmfp_data_chunks.proofs.acked.set_ahead.Goals as goal

pub returns-clause-set : goal.returns-clause-set
returns-clause-set c j lt =
    set_behind c.args.upto c.args.at j c.args.bits.now (omega (arith, c.type_inv.bits (c.args.at / 8))) (omega (arith, lt, c.min.ensures, c.from.ensures, c.trailing_ones.ensures))

pub returns-clause-stops : goal.returns-clause-stops
returns-clause-stops c none =
    set_ends c.args.upto c.args.at c.args.bits.now (omega (arith, c.type_inv.bits (c.args.at / 8))) (omega (arith, none, c.min.ensures, c.from.ensures, c.trailing_ones.ensures))
