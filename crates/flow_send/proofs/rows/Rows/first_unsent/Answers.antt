use Rattle.std.proofs.Common.{drop, sym, ◌∙◌, ap}
use Rattle.flow_send.specs.Rows.{Roomy, first_index, is_unsent}
use Rattle.flow_send.proofs.rows.Rows.first_unsent.Goals as goal

pub first-requires : goal.first-requires
first-requires c = c.self.invariant.3

pub returns : goal.returns
returns c = c.first.ensures ∙ (ap (λ (p : Roomy). first_index is_unsent c.args.from (drop c.args.from p.rows)) c.self.view_is ∙ sym c.requires)
