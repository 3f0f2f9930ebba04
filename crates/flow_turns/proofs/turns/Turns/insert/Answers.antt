use Rattle.std.proofs.Common.{ℕ, List, ap, ◌∙◌}
use Rattle.flow_turns.specs.Turns.{has_turn}
use Rattle.flow_turns.proofs.Turning.{put_own, put_others, put_tied}
use Rattle.flow_turns.proofs.turns.Turns.insert.Goals as goal

pub invariant_of-self : goal.invariant_of-self
invariant_of-self c = put_tied c.self.inside.full c.self.inside.words c.args.turn c.self.told c.requires c.self.invariant

pub returns-clause-own : goal.returns-clause-own
returns-clause-own c = put_own c.self.inside.words c.args.turn c.self.told c.requires

pub returns-clause-others : goal.returns-clause-others
returns-clause-others c = λ t differ. put_others c.self.inside.words c.args.turn t c.self.told c.requires differ ∙ ap (λ (ws : List ℕ). has_turn ws t) c.self.view_is
