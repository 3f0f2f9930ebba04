use Rattle.std.proofs.Common.{◌/◌, arith}
use Rattle.rtmfp_data_chunks.proofs.Ahead.{unset_behind, unset_ends}
use Rattle.rtmfp_data_chunks.proofs.acked.unset_ahead.Goals as goal

pub returns-clause-unset : goal.returns-clause-unset
returns-clause-unset c j lt =
    unset_behind c.args.upto c.args.at j c.args.bits.now (omega (arith, c.type_inv.bits (c.args.at / 8))) (omega (arith, lt, c.min.ensures, c.from.ensures))

pub returns-clause-stops : goal.returns-clause-stops
returns-clause-stops c none =
    unset_ends c.args.upto c.args.at c.args.bits.now (omega (arith, c.type_inv.bits (c.args.at / 8))) (omega (arith, none, c.min.ensures, c.from.ensures))
