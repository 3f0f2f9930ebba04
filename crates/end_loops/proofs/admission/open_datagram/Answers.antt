use Rattle.std.proofs.Common.{sym, ◌∙◌}
use Rattle.end_loops.proofs.Opening.{zero_opens}
use Rattle.end_loops.proofs.admission.open_datagram.Goals as goal

pub returns-then-sid-eq0-clause-ok : goal.returns-then-sid-eq0-clause-ok
returns-then-sid-eq0-clause-ok c =
    zero_opens c.args.end.now c.args.datagram.now c.split_at_mut-part.result.0.now c.split_at_mut-part.result.1.now c.open_under_zero.new.part c.in-Some.sid c.open_under_zero.result
    (sym c.in-Some.is ∙ c.session_id.ensures) c.if-sid-eq0.true c.split_at_mut-part.ensures.value c.split_at_mut-part.ensures.front_len c.open_under_zero.ensures.ok
