use Rattle.std.proofs.Common.{◌∷◌, ℕ, ap, ◌∙◌}
use Rattle.flow_recv.specs.Receiver.{add_span, span}
use Rattle.flow_recv.proofs.Sameness.{add_next}
use Rattle.flow_recv.proofs.spans.mark_first.Goals as goal

pub returns : goal.returns
returns c =
    c.raise.ensures ∙ (ap (λ (n : ℕ). add_span 0 n (span 0 c.args.through ∷ c.args.above.now)) c.max.ensures
    ∙ add_next c.args.through c.args.forward c.args.number c.args.above.now c.requires.apart c.requires.near)
