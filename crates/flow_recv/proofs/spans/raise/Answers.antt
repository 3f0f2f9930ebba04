use Rattle.std.proofs.Common.{◌+◌, ◌<◌, sym, ◌∙◌}
use Rattle.std.proofs.lemmas.Bool.{ltb-true}
use Rattle.flow_recv.proofs.Spots.{stops_before, stops_at_end}
use Rattle.flow_recv.proofs.spans.raise.Goals as goal

pub returns-then-is_apart : goal.returns-then-is_apart
returns-then-is_apart c =
    let here = c.in-Some.here in
    let far : c.loop-here.end + 1 < here.first = ltb-true (c.loop-here.end + 1) here.first (sym c.is_apart.ensures ∙ c.if-is_apart.true) in
    stops_before c.loop-here.end c.loop-here.above here (sym c.in-Some.ensures) far ∙ c.loop-here.invariant

pub returns-in_default : goal.returns-in_default
returns-in_default c = stops_at_end c.loop-here.end c.loop-here.above (sym c.in_default.ensures) ∙ c.loop-here.invariant
