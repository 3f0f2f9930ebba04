use Rattle.std.proofs.Common.{sym, ◌∙◌, subst}
use Rattle.rtmfp_script.specs.declared.line.Said.{Said as LineSaid}
use Rattle.rtmfp_script.specs.Lines.{Says}
use Rattle.rtmfp_play.proofs.Journaled.{line_journaled}
use Rattle.rtmfp_play.proofs.journal.journal_in.Goals as goal

pub returns-in-Ok-Step-clause-journaled : goal.returns-in-Ok-Step-clause-journaled
returns-in-Ok-Step-clause-journaled c =
    let only = c.in-Ok-Step.ensures.only in
    line_journaled c.args.world.now c.args.number c.args.line.now c.journal_said.new.world c.clear.new.self c.journal_said.new.text c.in-Ok-Step.said c.journal_said.result (λ other is. sym c.in-Ok-Step.field-0-is ∙ only other is)
    (subst (λ (o : LineSaid). Says c.args.line.now o) c.in-Ok-Step.field-0-is c.in-Ok-Step.ensures.says) c.clear.ensures c.journal_said.ensures.said
