use Rattle.std.proofs.Common.{subst, sym}
use Rattle.log_contexts.specs.Kept.{ThreadTable}
use Rattle.log_contexts.specs.Alone.{AreAlone}
use Rattle.log_contexts.proofs.Noted.{either_way, noted_still, starts_there}
use Rattle.log_contexts.proofs.begun.Begun.start_with.Goals as goal

pub invariant_of-self : goal.invariant_of-self
invariant_of-self c =
    either_way c.start.result c.start.ensures.ok c.start.ensures.err
    (λ e. subst (λ (t : ThreadTable). AreAlone t c.note.new.self) (sym e) (starts_there c.args.near c.args.tag c.self.inside.alone c.note.new.self c.in-Ok.ensures.ok c.self.inside.threads.table c.self.invariant))
    (λ e. subst (λ (t : ThreadTable). AreAlone t c.note.new.self) (sym e) (noted_still c.args.near c.args.tag c.self.inside.alone c.note.new.self c.in-Ok.ensures.ok c.self.inside.threads.table c.self.invariant))
