use Rattle.std.proofs.Common.{◌∙◌, sym}
use Rattle.startup.proofs.Owning.{no_attempt_others, no_mark_others}
use Rattle.startup.proofs.indexed.unmark.Goals as goal

pub returns-in_default-clause-others : goal.returns-in_default-clause-others
returns-in_default-clause-others c = no_attempt_others c.args.marks.now.marks c.args.table.now.attempts c.args.near (sym c.in_default.ensures) c.requires.own

pub returns-in_default-mark_of-clause-others : goal.returns-in_default-mark_of-clause-others
returns-in_default-mark_of-clause-others c =
    no_mark_others c.args.marks.now.marks c.args.table.now.attempts c.args.near c.in-Some.attempt.now (sym c.in-Some.ensures) (sym c.mark_of.ensures ∙ c.in_default-mark_of.is) c.requires.own
