use Rattle.std.proofs.Common.{rules, ℕ, List, [], ◌∷◌, ◌++◌, ◌<◌, ◌∙◌, ap, sym, subst, length}
use Rattle.log_reading.specs.Gathered.{Read}
use Rattle.log_reading.proofs.Grown.{length_logs}
use Rattle.log_reading.proofs.Sound.{sound_event}
use Rattle.log_reading.proofs.gathered.Gathered.begin.Goals as goal

pub add_event-requires : goal.add_event-requires
add_event-requires c =
    subst (λ (n : ℕ). c.args.who < n) (ap (λ (r : Read). length r.logs) (sym c.self.view_is) ∙ length_logs c.self.inside.logs.items) c.requires.end

pub invariant_of-self-2 : goal.invariant_of-self-2
invariant_of-self-2 c =
    sound_event c.args.who _ c.in_ok-add_event.ensures.ok (c.put.ensures ∙ ap (λ (order : List ℕ). order ++ c.args.who ∷ []) c.reserve.ensures.same)
    (subst (λ (r : Read). r.count < 100000) (sym c.self.view_is) c.requires.few)
    (subst (λ (r : Read). c.args.who < length r.logs) (sym c.self.view_is) c.requires.end) c.self.invariant

pub returns-clause-ok : goal.returns-clause-ok
returns-clause-ok c = search rules
