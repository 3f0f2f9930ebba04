use Rattle.std.proofs.Common.{ℕ, ◌/◌, List, ap, ◌∙◌, arith}
use Rattle.std.proofs.lemmas.Nat.{and_le_l}
use Rattle.flow_turns.specs.Turns.{has_turn}
use Rattle.flow_turns.proofs.Turning.{out_own, out_others, out_empty, out_used}
use Rattle.flow_turns.proofs.turns.Turns.remove.Goals as goal

pub invariant_of-self : goal.invariant_of-self
invariant_of-self c = out_empty c.self.inside.full _ c.self.inside.words (c.args.turn / 64) c.self.told (omega (arith, c.requires)) c.if-word-eq0.true c.self.invariant

pub invariant_of-self-else-word-eq0 : goal.invariant_of-self-else-word-eq0
invariant_of-self-else-word-eq0 c = out_used c.self.inside.full _ c.self.inside.words (c.args.turn / 64) c.self.told (omega (arith, c.requires)) (and_le_l _ _) (omega (arith, c.if-word-eq0.false)) c.self.invariant

pub returns-then-word-eq0-clause-others : goal.returns-then-word-eq0-clause-others
returns-then-word-eq0-clause-others c = λ t differ. out_others c.self.inside.words c.args.turn t c.self.told c.requires differ ∙ ap (λ (ws : List ℕ). has_turn ws t) c.self.view_is

pub returns-else-word-eq0-clause-own : goal.returns-else-word-eq0-clause-own
returns-else-word-eq0-clause-own c = out_own c.self.inside.words c.args.turn c.self.told c.requires

pub returns-else-word-eq0-clause-others : goal.returns-else-word-eq0-clause-others
returns-else-word-eq0-clause-others c = λ t differ. out_others c.self.inside.words c.args.turn t c.self.told c.requires differ ∙ ap (λ (ws : List ℕ). has_turn ws t) c.self.view_is
