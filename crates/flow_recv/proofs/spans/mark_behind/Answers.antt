use Rattle.std.proofs.Common.{◌∷◌, List, ap, ◌∙◌}
use Rattle.flow_recv.specs.declared.spans.Span.{Span}
use Rattle.flow_recv.specs.Receiver.{add_span, span}
use Rattle.flow_recv.proofs.Spots.{marked_behind}
use Rattle.flow_recv.proofs.spans.mark_behind.Goals as goal

pub returns : goal.returns
returns c =
    c.raise.ensures ∙ (ap (λ (ss : List Span). add_span 0 c.args.forward (span 0 c.args.through ∷ ss)) c.close.ensures
    ∙ marked_behind c.args.through c.args.forward c.args.number c.args.first c.args.above.now c.requires.apart c.requires.missing c.requires.behind)
