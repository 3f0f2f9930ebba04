use Rattle.rtmfp_fragments.specs.Pieces.{piece}
use Rattle.rtmfp_fragments.proofs.Limits.{limits_gathered, limits_kept}
use Rattle.rtmfp_fragments.proofs.reassembly.Reassembly.take.Goals as goal

pub invariant_of-self : goal.invariant_of-self
invariant_of-self c = limits_kept _ _ c.args.moment c.forget_old.ensures c.self.invariant

pub returns-in-Some-clause-limits : goal.returns-in-Some-clause-limits
returns-in-Some-clause-limits c = limits_kept _ _ c.args.moment c.forget_old.ensures c.self.invariant

pub invariant_of-self-in-Ok : goal.invariant_of-self-in-Ok
invariant_of-self-in-Ok c =
    limits_gathered c.gather.result _ _ c.args.id c.args.moment (piece c.args.number c.args.more c.args.bytes.now)
    c.gather.ensures.ok c.gather.ensures.err c.self.invariant

pub invariant_of-self-in-Err : goal.invariant_of-self-in-Err
invariant_of-self-in-Err c =
    limits_kept _ _ c.args.moment c.forget_old-in-Err.ensures
    (limits_gathered c.gather.result _ _ c.args.id c.args.moment (piece c.args.number c.args.more c.args.bytes.now)
    c.gather.ensures.ok c.gather.ensures.err c.self.invariant)

pub returns-in-Err-clause-limits : goal.returns-in-Err-clause-limits
returns-in-Err-clause-limits c =
    limits_kept _ _ c.args.moment c.forget_old-in-Err.ensures
    (limits_gathered c.gather.result _ _ c.args.id c.args.moment (piece c.args.number c.args.more c.args.bytes.now)
    c.gather.ensures.ok c.gather.ensures.err c.self.invariant)

pub returns-in-Ok-clause-limits : goal.returns-in-Ok-clause-limits
returns-in-Ok-clause-limits c =
    limits_gathered c.gather.result _ _ c.args.id c.args.moment (piece c.args.number c.args.more c.args.bytes.now)
    c.gather.ensures.ok c.gather.ensures.err c.self.invariant
