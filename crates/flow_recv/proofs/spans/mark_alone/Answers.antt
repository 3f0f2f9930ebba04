use Rattle.std.proofs.Common.{◌∷◌, List, ap, ◌∙◌}
use Rattle.flow_recv.specs.declared.spans.Span.{Span}
use Rattle.flow_recv.specs.Receiver.{add_span, span}
use Rattle.flow_recv.specs.Above.{closed}
use Rattle.flow_recv.proofs.Spots.{marked_alone}
use Rattle.flow_recv.proofs.spans.mark_alone.Goals as goal

pub returns : goal.returns
returns c ss put apart alone =
    c.raise.ensures ∙ (ap (λ (ts : List Span). add_span 0 c.args.forward (span 0 c.args.through ∷ ts)) (c.close.ensures ∙ ap (λ (ts : List Span). closed c.args.number c.args.number ts) put)
    ∙ marked_alone c.args.through c.args.forward c.args.number ss apart alone)
