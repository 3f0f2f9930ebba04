use Rattle.std.proofs.Common.{ℕ, ◌<◌, ◌∙◌, ap, sym, subst, length}
use Rattle.log_reading.specs.Gathered.{Read}
use Rattle.log_reading.proofs.Grown.{length_logs}
use Rattle.log_reading.proofs.Sound.{sound_entry}
use Rattle.log_reading.proofs.gathered.Gathered.extend.Goals as goal

pub add_entry-requires : goal.add_entry-requires
add_entry-requires c =
    subst (λ (n : ℕ). c.args.who < n) (ap (λ (r : Read). length r.logs) (sym c.self.view_is) ∙ length_logs c.self.inside.logs.items) c.requires.end

pub invariant_of-self-2 : goal.invariant_of-self-2
invariant_of-self-2 c =
    sound_entry c.args.who _ c.in_ok-add_entry.ensures.ok (subst (λ (r : Read). r.count < 100000) (sym c.self.view_is) c.requires.few) c.self.invariant
