use Rattle.std.proofs.Common.{ℕ, List, ap, ◌∙◌}
use Rattle.flow_turns.specs.Busy.{has_flow}
use Rattle.flow_turns.proofs.Busying.{out_own, out_others}
use Rattle.flow_turns.proofs.busy.Busy.remove.Goals as goal

pub returns-clause-own : goal.returns-clause-own
returns-clause-own c = out_own c.self.inside.words c.args.id c.self.told c.requires

pub returns-clause-others : goal.returns-clause-others
returns-clause-others c = λ other differ. out_others c.self.inside.words c.args.id other c.self.told c.requires differ ∙ ap (λ (ws : List ℕ). has_flow ws other) c.self.view_is
