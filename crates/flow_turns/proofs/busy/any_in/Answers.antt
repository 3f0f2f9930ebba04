use Rattle.std.proofs.Common.{sym, arith}
use Rattle.flow_turns.proofs.Busying.{has_any}
use Rattle.flow_turns.proofs.busy.any_in.Goals as goal

pub returns : goal.returns
returns c = has_any c.args.words.now (λ place. omega (arith, c.type_inv.words place)) c.any_used.result (sym c.any_used.ensures)
