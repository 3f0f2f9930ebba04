use Rattle.rtmfp_fragments.specs.Pieces.{piece}
use Rattle.rtmfp_fragments.proofs.Limits.{limits_gathered}
use Rattle.rtmfp_fragments.proofs.reassembly.Reassembly.gather.Goals as goal

pub invariant_of-self : goal.invariant_of-self
invariant_of-self c =
    limits_gathered c.gather.result _ _ c.args.id c.args.moment (piece c.args.number c.args.more c.args.bytes.now)
    c.gather.ensures.ok c.gather.ensures.err c.self.invariant

pub returns-clause-limits : goal.returns-clause-limits
returns-clause-limits c =
    limits_gathered c.gather.result _ _ c.args.id c.args.moment (piece c.args.number c.args.more c.args.bytes.now)
    c.gather.ensures.ok c.gather.ensures.err c.self.invariant
