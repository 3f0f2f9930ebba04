use Rattle.std.proofs.Common.{List, slice_get, ap, ◌∙◌}
use Rattle.flow_recv.specs.declared.spans.Span.{Span}
use Rattle.flow_recv.proofs.Mapped.{first_is}
use Rattle.flow_recv.proofs.above.Above.first.Goals as goal

pub returns-in-Some : goal.returns-in-Some
returns-in-Some c =
    let f = c.in-Some.ensures in
    first_is c.self.inside.map.entries c.in-Some.first.now c.in-Some.last.now f.first ∙ ap (λ (ss : List Span). slice_get ss 0) c.self.view_is
